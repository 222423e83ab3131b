-- Command by command.
use Rattle.std.proofs.Common.{sym, subst, take, ◌+◌}
use Rattle.std.proofs.Common.{inl, ⊎_elim}
use Rattle.ifs_claims.specs.Claims.{NeverRuns}
use Rattle.ifs_claims.specs.Told.{WouldRun}
use Rattle.ifs_prove.specs.Claiming.{guard_in}
use Rattle.ifs_prove.specs.inner.Judging.{AreToldOfRuns, IsOpenFor}
use Rattle.ifs_prove.proofs.Judged.{none_said, next_said, all_said, one_said, none_open, next_open}
use Rattle.ifs_solver.proofs.Paying.{spent_by_both, unspent}
use Rattle.ifs_prove.proofs.judging.never_runs_any.Goals as goal

pub loop-command-init : goal.loop-command-init
loop-command-init c = record {
  told = none_said (λ command. NeverRuns c.args.entered.now command (guard_in c.args.premise.now)) (λ command. WouldRun c.args.entered.now command (guard_in c.args.premise.now)) c.args.commands.now;
  unanswered = none_open (λ command. NeverRuns c.args.entered.now command (guard_in c.args.premise.now)) (λ command. WouldRun c.args.entered.now command (guard_in c.args.premise.now)) c.args.commands.now (λ command. ⊥) c.args.budget.now;
  spent = unspent c.args.budget.now;
}

pub loop-command-preserved : goal.loop-command-preserved
loop-command-preserved c =
    let h = c.loop-command.invariant in
    record {
      told =
          subst (AreToldOfRuns c.args.entered.now (guard_in c.args.premise.now) c.args.commands.now (take (c.loop-command.command-index + 1) c.args.commands.now)) (sym c.either-told.ensures)
          (next_said (λ command. NeverRuns c.args.entered.now command (guard_in c.args.premise.now)) (λ command. WouldRun c.args.entered.now command (guard_in c.args.premise.now)) c.args.commands.now c.loop-command.command-index _ c.loop-command.told c.in_ok-more.more c.loop-command-test.true h.told c.in_ok-more.ensures.told);
      unanswered =
          subst (IsOpenFor c.args.commands.now (λ command. ⊥) c.args.budget.now c.never_runs_while.new.budget) (sym c.either-told.ensures)
          (next_open (λ command. NeverRuns c.args.entered.now command (guard_in c.args.premise.now)) (λ command. WouldRun c.args.entered.now command (guard_in c.args.premise.now)) c.args.commands.now (λ command. ⊥) c.loop-command.command-index (record { 0 = 0 }) c.loop-command.told c.in_ok-more.more c.args.budget.now c.loop-command.budget c.never_runs_while.new.budget c.loop-command-test.true h.spent c.in_ok-more.ensures.spent h.unanswered
          (λ e. inl (c.in_ok-more.ensures.undecided e)));
      spent = spent_by_both c.args.budget.now c.loop-command.budget c.never_runs_while.new.budget h.spent c.in_ok-more.ensures.spent;
    }

pub returns-in-Somewhere-clause-told : goal.returns-in-Somewhere-clause-told
returns-in-Somewhere-clause-told c =
    one_said (λ command. NeverRuns c.args.entered.now command (guard_in c.args.premise.now)) (λ command. WouldRun c.args.entered.now command (guard_in c.args.premise.now)) c.args.commands.now c.loop-command.command-index c.loop-command.told c.in-Somewhere.is
    c.loop-command.invariant.told

pub returns-clause-told : goal.returns-clause-told
returns-clause-told c =
    all_said (λ command. NeverRuns c.args.entered.now command (guard_in c.args.premise.now)) (λ command. WouldRun c.args.entered.now command (guard_in c.args.premise.now)) c.args.commands.now c.loop-command.command-index c.loop-command.told c.loop-command-test.false
    c.loop-command.invariant.told

pub returns-clause-undecided : goal.returns-clause-undecided
returns-clause-undecided c = λ e. ⊎_elim (λ used. used) (λ one. absurd one.2) (c.loop-command.invariant.unanswered e)
