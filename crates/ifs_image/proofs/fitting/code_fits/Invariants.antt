use Rattle.std.proofs.Common.{◌≡◌, ◌+◌, take}
use Rattle.ifs_image.specs.Limits.{instructions, code_limit}
use Rattle.ifs_image.proofs.fitting.code_fits.Given as goal

abbrev pub invariant-loop-routine : goal.invariant-loop-routine
invariant-loop-routine l = l.room + instructions (take l.routine-index l.routines) ≡ code_limit l.version
