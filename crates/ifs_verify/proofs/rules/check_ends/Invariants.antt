use Rattle.std.proofs.Common.{ℕ, ◌≡◌, ◌<◌, ◌-◌, length, Some}
use Rattle.ifs_base.specs.declared.op.Op.TheVariants.{Ret}
use Rattle.ifs_image.specs.Code.{op_at, code_of}
use Rattle.ifs_verify.proofs.rules.check_ends.Given as goal

abbrev pub invariant-loop-routine : goal.invariant-loop-routine
invariant-loop-routine l = (routine : ℕ) → routine < l.routine → op_at l.image routine (length (code_of l.image routine) - 1) ≡ Some Ret
