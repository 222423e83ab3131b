-- The tour goes on. Each turn visits a state that was pending.
use Rattle.ifs_solver.specs.inner.Touring.{ahead, Runs}
use Rattle.ifs_solver.proofs.touring.Tour.run.Given as goal

abbrev pub invariant-loop-state : goal.invariant-loop-state
invariant-loop-state l = Runs l.fn.self l.self

abbrev pub decreases-loop-state : goal.decreases-loop-state
decreases-loop-state l = ahead l.self
