use Rattle.std.proofs.Common.{ℕ, ◌≡◌, ◌<◌, Some}
use Rattle.ifs_base.specs.declared.op.Op.{Op}
use Rattle.ifs_image.specs.Code.{op_at}
use Rattle.ifs_verify.specs.declared.rules.OpRule.{OpRule}
use Rattle.ifs_verify.specs.inner.Passes.{Keeps}
use Rattle.ifs_verify.proofs.rules.all_keep.Given as goal

abbrev pub invariant-loop-routine : goal.invariant-loop-routine
invariant-loop-routine l = (rule : OpRule) (routine place : ℕ) (op : Op) → routine < l.routine → op_at l.image routine place ≡ Some op → Keeps rule l.image routine place op
