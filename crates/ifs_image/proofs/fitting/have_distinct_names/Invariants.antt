use Rattle.std.proofs.Common.{take}
use Rattle.ifs_image.specs.Limits.{AreDistinct, names_of}
use Rattle.ifs_image.proofs.fitting.have_distinct_names.Given as goal

abbrev pub invariant-loop-i : goal.invariant-loop-i
invariant-loop-i l = AreDistinct (take l.i (names_of l.states))
