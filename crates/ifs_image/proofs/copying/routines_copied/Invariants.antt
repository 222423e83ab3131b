use Rattle.std.proofs.Common.{◌≡◌, take}
use Rattle.ifs_image.proofs.copying.routines_copied.Given as goal

abbrev pub invariant-loop-routine : goal.invariant-loop-routine
invariant-loop-routine l = l.copied.items ≡ take l.routine-index l.routines
