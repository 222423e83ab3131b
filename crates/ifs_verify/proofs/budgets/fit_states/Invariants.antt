use Rattle.std.proofs.Common.{ℕ, ◌≡◌, ◌<◌, ◌≤◌, Some, slice_index}
use Rattle.std.specs.List.{slice_get}
use Rattle.ifs_image.specs.declared.parts.StateSpec.{StateSpec}
use Rattle.ifs_verify.proofs.budgets.fit_states.Given as goal

abbrev pub invariant-loop-state : goal.invariant-loop-state
invariant-loop-state l = (k : ℕ) (state : StateSpec) → k < l.state → slice_get l.image.states k ≡ Some state
    → (slice_index l.reach.items state.handlers.init.0 ≤ l.stated) × (slice_index l.reach.items state.handlers.body.0 ≤ l.stated)
