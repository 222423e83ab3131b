use Rattle.std.proofs.Common.{length}
use Rattle.ifs_session.proofs.Spelling.{Spelled}
use Rattle.ifs_session.proofs.hexadecimal.append_spelled.Given as goal

abbrev pub invariant-loop-left : goal.invariant-loop-left
invariant-loop-left l = Spelled l.text l.left l.fn.bytes.items l.bytes.items

abbrev pub decreases-loop-left : goal.decreases-loop-left
decreases-loop-left l = length l.left
