-- The bodies so far.
use Rattle.std.proofs.Common.{◌≡◌, take}
use Rattle.ifs_solver.specs.Places.{bodies_after_always}
use Rattle.ifs_solver.specs.inner.Paying.{IsPaid}
use Rattle.ifs_solver.specs.inner.Walking.{IsLastOf}
use Rattle.ifs_solver.proofs.walking.ask_before.Given as goal

abbrev pub invariant-loop-part : goal.invariant-loop-part
invariant-loop-part l = record {
  same : l.constraints.items ≡ l.initial.constraints.items;
  so_far : IsLastOf l.scope l.initial.constraints.items (bodies_after_always (take l.part-index l.states)) l.extent;
  paid : IsPaid l.initial.budget l.budget l.extent;
}
