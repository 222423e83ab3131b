-- Those of the states so far, and the budget is not raised.
use Rattle.std.proofs.Common.{◌≡◌, length}
use Rattle.ifs_solver.specs.Budgets.{IsSpent}
use Rattle.ifs_levels.specs.inner.Tables.{AreAllFrom}
use Rattle.ifs_levels.proofs.policy_outcomes.states_of.Given as goal

abbrev pub invariant-loop-index : goal.invariant-loop-index
invariant-loop-index l = AreAllFrom l.policy 0 l.states.items × (length l.states.items ≡ l.index) × IsSpent l.fn.budget l.budget
