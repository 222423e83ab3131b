-- No item so far defines a state.
use Rattle.std.proofs.Common.{◌≡◌, drop}
use Rattle.std.specs.List.{list_any}
use Rattle.ifs_policy.specs.Faults.{is_state}
use Rattle.ifs_policy.proofs.resolving.has_state.Given as goal

abbrev pub invariant-loop-item : goal.invariant-loop-item
invariant-loop-item l = list_any is_state (drop l.item-index l.items) ≡ list_any is_state l.items
