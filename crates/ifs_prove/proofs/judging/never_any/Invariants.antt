-- The states before this one.
use Rattle.std.proofs.Common.{take}
use Rattle.ifs_solver.specs.Budgets.{IsSpent}
use Rattle.ifs_prove.specs.inner.Judging.{AreToldOf, IsOpenFor, IsOpenOf}
use Rattle.ifs_prove.proofs.judging.never_any.Given as goal

abbrev pub invariant-loop-state : goal.invariant-loop-state
invariant-loop-state l = record {
  told : AreToldOf l.entered l.denied l.states (take l.state-index l.states) l.told;
  unanswered : IsOpenFor l.states (IsOpenOf l.entered l.denied) l.fn.budget l.budget l.told;
  spent : IsSpent l.fn.budget l.budget;
}
