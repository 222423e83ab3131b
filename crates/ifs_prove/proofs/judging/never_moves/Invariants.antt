-- The states before this one.
use Rattle.std.proofs.Common.{take}
use Rattle.ifs_solver.specs.Budgets.{IsSpent}
use Rattle.ifs_prove.specs.Claiming.{IsOneOf}
use Rattle.ifs_prove.specs.declared.judging.Denied.TheVariants.{MoveFrom}
use Rattle.ifs_prove.specs.inner.Judging.{AreToldOfMoves, IsOpenFor, IsOpenOf}
use Rattle.ifs_prove.proofs.judging.never_moves.Given as goal

abbrev pub invariant-loop-state : goal.invariant-loop-state
invariant-loop-state l = record {
  told : AreToldOfMoves l.entered l.from (take l.state-index l.from) l.to l.told;
  unanswered : IsOpenFor l.from (λ state. IsOneOf l.to (IsOpenOf l.entered (MoveFrom state))) l.fn.budget l.budget l.told;
  spent : IsSpent l.fn.budget l.budget;
}
