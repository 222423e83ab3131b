-- The rests of both are the same exactly if the whole codes are.
use Rattle.std.proofs.Common.{◌≡◌, length}
use Rattle.ifs_gen.specs.Sharing.{same_code}
use Rattle.ifs_gen.proofs.keys.ConditionCodePartialEq.eq.Given as goal

abbrev pub invariant-loop-left : goal.invariant-loop-left
invariant-loop-left l = same_code l.left l.right ≡ same_code l.self l.other

abbrev pub decreases-loop-left : goal.decreases-loop-left
decreases-loop-left l = length l.left
