-- State by state.
use Rattle.std.proofs.Common.{sym, subst, take, ◌+◌}
use Rattle.ifs_prove.specs.inner.Judging.{AreToldOf, IsNever, IsOpenFor, IsOpenOf, WouldBeSo}
use Rattle.ifs_prove.proofs.Judged.{none_said, next_said, all_said, one_said, none_open, next_open}
use Rattle.ifs_solver.proofs.Paying.{spent_by_both, unspent}
use Rattle.ifs_prove.proofs.judging.never_any.Goals as goal

pub loop-state-init : goal.loop-state-init
loop-state-init c = record {
  told = none_said (IsNever c.args.entered.now c.args.denied) (WouldBeSo c.args.entered.now c.args.denied) c.args.states.now;
  unanswered = none_open (IsNever c.args.entered.now c.args.denied) (WouldBeSo c.args.entered.now c.args.denied) c.args.states.now (IsOpenOf c.args.entered.now c.args.denied) c.args.budget.now;
  spent = unspent c.args.budget.now;
}

pub loop-state-preserved : goal.loop-state-preserved
loop-state-preserved c =
    let h = c.loop-state.invariant in
    record {
      told =
          subst (AreToldOf c.args.entered.now c.args.denied c.args.states.now (take (c.loop-state.state-index + 1) c.args.states.now)) (sym c.either-told.ensures)
          (next_said (IsNever c.args.entered.now c.args.denied) (WouldBeSo c.args.entered.now c.args.denied) c.args.states.now c.loop-state.state-index _ c.loop-state.told c.in_ok-more.more c.loop-state-test.true h.told c.in_ok-more.ensures.told);
      unanswered =
          subst (IsOpenFor c.args.states.now (IsOpenOf c.args.entered.now c.args.denied) c.args.budget.now c.never.new.budget) (sym c.either-told.ensures)
          (next_open (IsNever c.args.entered.now c.args.denied) (WouldBeSo c.args.entered.now c.args.denied) c.args.states.now (IsOpenOf c.args.entered.now c.args.denied) c.loop-state.state-index _ c.loop-state.told c.in_ok-more.more c.args.budget.now c.loop-state.budget c.never.new.budget c.loop-state-test.true h.spent c.in_ok-more.ensures.spent h.unanswered
          c.in_ok-more.ensures.undecided);
      spent = spent_by_both c.args.budget.now c.loop-state.budget c.never.new.budget h.spent c.in_ok-more.ensures.spent;
    }

pub returns-in-Somewhere-clause-told : goal.returns-in-Somewhere-clause-told
returns-in-Somewhere-clause-told c =
    one_said (IsNever c.args.entered.now c.args.denied) (WouldBeSo c.args.entered.now c.args.denied) c.args.states.now c.loop-state.state-index c.loop-state.told c.in-Somewhere.is
    c.loop-state.invariant.told

pub returns-clause-told : goal.returns-clause-told
returns-clause-told c =
    all_said (IsNever c.args.entered.now c.args.denied) (WouldBeSo c.args.entered.now c.args.denied) c.args.states.now c.loop-state.state-index c.loop-state.told c.loop-state-test.false
    c.loop-state.invariant.told
