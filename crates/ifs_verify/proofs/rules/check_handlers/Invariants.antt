use Rattle.std.proofs.Common.{ℕ, ◌≡◌, ◌<◌, Some}
use Rattle.std.specs.List.{slice_get}
use Rattle.ifs_image.specs.declared.parts.StateSpec.{StateSpec}
use Rattle.ifs_verify.specs.Rules.{BothStandAlone}
use Rattle.ifs_verify.proofs.rules.check_handlers.Given as goal

abbrev pub invariant-loop-state : goal.invariant-loop-state
invariant-loop-state l = (k : ℕ) (state : StateSpec) → k < l.state → slice_get l.image.states k ≡ Some state → BothStandAlone l.image state.handlers
