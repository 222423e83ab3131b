use Rattle.std.proofs.Common.{take}
use Rattle.ifs_image.specs.Limits.{AreDistinct}
use Rattle.ifs_image.proofs.fitting.are_distinct.Given as goal

abbrev pub invariant-loop-i : goal.invariant-loop-i
invariant-loop-i l = AreDistinct (take l.i l.names)
