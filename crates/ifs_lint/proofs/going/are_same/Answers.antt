-- What `==` says of two lists of states.
use Rattle.std.proofs.Common.{◌≡◌, ap}
use Rattle.std.specs.Bool.{Decides}
use Rattle.std.proofs.lemmas.Bool.{OnTrue_from, eqb-true, eq-eqb}
use Rattle.std.proofs.lemmas.Slice.Eq.{slice_eq-Decides}
use Rattle.std.specs.Prelude.{◌==◌}
use Rattle.ifs_base.specs.declared.ids.StateId.{StateId}
use Rattle.ifs_lint.proofs.going.are_same.Goals as goal

state_decides : (one other : StateId) → Decides (one.0 == other.0) (one ≡ other)
state_decides one other = (λ e. ap (λ n. record { 0 = n }) (eqb-true one.0 other.0 e), λ e. eq-eqb one.0 other.0 (ap (λ state. state.0) e))

pub returns : goal.returns
returns c = OnTrue_from c.eq.result _ (λ e. (slice_eq-Decides state_decides c.args.states.now c.args.others.now c.eq.result c.eq.ensures).0 e)
