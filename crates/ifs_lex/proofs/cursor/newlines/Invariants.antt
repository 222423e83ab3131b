use Rattle.std.proofs.Common.{◌≡◌, ◌+◌, ◌≤◌, ◌==◌, count_by, length}
use Rattle.ifs_lex.proofs.cursor.newlines.Given as goal

abbrev pub invariant-loop-left : goal.invariant-loop-left
invariant-loop-left l =
    (l.count + count_by (λ b. b == 10) l.left ≡ count_by (λ b. b == 10) l.bytes) × (length l.bytes ≤ 1048576)

abbrev pub decreases-loop-left : goal.decreases-loop-left
decreases-loop-left l = length l.left
