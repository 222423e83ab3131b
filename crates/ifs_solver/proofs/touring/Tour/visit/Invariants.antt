-- What was looked at so far, in whatever policy.
use Rattle.std.proofs.Common.{◌≡◌}
use Rattle.ifs_gen.specs.Trees.{Policy}
use Rattle.ifs_solver.specs.declared.searching.Budget.{Budget}
use Rattle.ifs_solver.specs.inner.Touring.{ahead, IsTouring}
use Rattle.ifs_solver.proofs.touring.Tour.visit.Given as goal

abbrev pub invariant-loop-next : goal.invariant-loop-next
invariant-loop-next l = record {
  looks : (policy : Policy) (given : Budget) → IsTouring policy given l.state 0 l.fn.self → IsTouring policy given l.state l.next l.self;
  as_far : ahead l.self ≡ ahead l.fn.self;
}
