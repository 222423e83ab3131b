use Rattle.std.proofs.Common.{ℕ, ◌≡◌, ◌<◌, ◌≤◌, Some, slice_index}
use Rattle.std.specs.List.{slice_get}
use Rattle.ifs_image.specs.declared.parts.StateSpec.{StateSpec}
use Rattle.ifs_verify.specs.inner.Passes.{handler_in, Reaches}
use Rattle.ifs_verify.proofs.budgets.greatest.Given as goal

abbrev pub invariant-loop-state : goal.invariant-loop-state
invariant-loop-state l = record {
  bound : (k : ℕ) (state : StateSpec) → k < l.state → slice_get l.image.states k ≡ Some state → slice_index l.amounts.items (handler_in l.role state.handlers).0 ≤ l.most;
  least : (bound : ℕ) → Reaches l.role l.image (slice_index l.amounts.items) bound → l.most ≤ bound;
  low : l.most ≤ 100000;
}
