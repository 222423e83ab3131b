use Rattle.std.proofs.Common.{ℕ, ◌≡◌, ◌<◌, Some}
use Rattle.std.specs.List.{slice_get}
use Rattle.ifs_base.specs.declared.op.Op.{Op}
use Rattle.ifs_verify.specs.declared.rules.OpRule.{OpRule}
use Rattle.ifs_verify.specs.inner.Passes.{Keeps}
use Rattle.ifs_verify.proofs.rules.all_keep_in.Given as goal

abbrev pub invariant-loop-place : goal.invariant-loop-place
invariant-loop-place l = (rule : OpRule) (place : ℕ) (op : Op) → place < l.place → slice_get l.code place ≡ Some op → Keeps rule l.image l.routine place op
