-- The commands before this one.
use Rattle.std.proofs.Common.{take}
use Rattle.ifs_solver.specs.Budgets.{IsSpent}
use Rattle.ifs_prove.specs.Claiming.{guard_in}
use Rattle.ifs_prove.specs.inner.Judging.{AreToldOfRuns, IsOpenFor}
use Rattle.ifs_prove.proofs.judging.never_runs_any.Given as goal

abbrev pub invariant-loop-command : goal.invariant-loop-command
invariant-loop-command l = record {
  told : AreToldOfRuns l.entered (guard_in l.premise) l.commands (take l.command-index l.commands) l.told;
  unanswered : IsOpenFor l.commands (λ command. ⊥) l.fn.budget l.budget l.told;
  spent : IsSpent l.fn.budget l.budget;
}
