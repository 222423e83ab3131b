use Rattle.std.proofs.Common.{ℕ, ◌≡◌, ◌+◌, slice_index}
use Rattle.ifs_verify.specs.Bounds.{cost_of, commands_of}
use Rattle.ifs_verify.specs.inner.Passes.{IsCountedFrom}
use Rattle.ifs_verify.proofs.amounts.amounts_of.Given as goal

abbrev pub invariant-loop-done : goal.invariant-loop-done
invariant-loop-done l = record {
  costs : (place : ℕ) → place + l.done ≡ l.count → IsCountedFrom cost_of l.image (slice_index l.costs) l.routine l.by_place.costs.items place;
  commands : (place : ℕ) → place + l.done ≡ l.count → IsCountedFrom commands_of l.image (slice_index l.commands) l.routine l.by_place.commands.items place;
}
