use Rattle.std.proofs.Common.{◌≡◌, ◌≤◌}
use Rattle.ifs_image_reports.specs.Places.{line_at}
use Rattle.ifs_image_reports.proofs.places.start_of.Given as goal

-- the line of the place, which is not after the wanted one
abbrev pub invariant-loop-place : goal.invariant-loop-place
invariant-loop-place l = record {
  counted : line_at l.text l.place ≡ l.line;
  within : 1 ≤ l.number → l.line ≤ l.number;
}
