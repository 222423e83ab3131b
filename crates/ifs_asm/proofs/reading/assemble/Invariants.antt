use Rattle.std.proofs.Common.{length}
use Rattle.ifs_asm.specs.inner.Reading.{AreRead}
use Rattle.ifs_asm.proofs.reading.assemble.Given as goal

abbrev pub invariant-loop-left : goal.invariant-loop-left
invariant-loop-left l = AreRead l.text l.left l.building l.line

abbrev pub decreases-loop-left : goal.decreases-loop-left
decreases-loop-left l = length l.left
