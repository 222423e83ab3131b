use Rattle.std.proofs.Common.{ℕ, ◌<◌, ◌≤◌, length}
use Rattle.ifs_image.specs.Code.{code_of}
use Rattle.ifs_verify.proofs.places.room.Given as goal

abbrev pub invariant-loop-routine : goal.invariant-loop-routine
invariant-loop-routine l = record {
  longest : (routine : ℕ) → routine < l.routine → length (code_of l.image routine) ≤ l.longest;
  low : l.longest ≤ 1024;
}
