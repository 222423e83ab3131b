use Rattle.std.proofs.Common.{◌≡◌, ◌+◌, ◌≤◌, length, take, not}
use Rattle.std.specs.List.{suffix_len}
use Rattle.ifs_report.specs.Positions.{is_newline}
use Rattle.ifs_report.proofs.lines.last_line.Given as goal

abbrev pub invariant-loop-start : goal.invariant-loop-start
invariant-loop-start l = record {
  within : l.start ≤ length l.bytes;
  passed : l.start + suffix_len (λ b. not (is_newline b)) l.bytes ≡ length l.bytes + suffix_len (λ b. not (is_newline b)) (take l.start l.bytes);
}

abbrev pub decreases-loop-start : goal.decreases-loop-start
decreases-loop-start l = l.start
