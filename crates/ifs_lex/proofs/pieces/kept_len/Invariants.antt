use Rattle.std.proofs.Common.{◌≤◌, ◌-◌, length}
use Rattle.ifs_lex.proofs.Searches.{KeptTo}
use Rattle.ifs_lex.proofs.pieces.kept_len.Given as goal

abbrev pub invariant-loop-ahead : goal.invariant-loop-ahead
invariant-loop-ahead l = (l.from ≤ length l.bytes) × KeptTo l.quote l.bytes l.from

abbrev pub decreases-loop-ahead : goal.decreases-loop-ahead
decreases-loop-ahead l = length l.bytes - l.from
