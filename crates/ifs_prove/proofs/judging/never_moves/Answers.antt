-- State by state.
use Rattle.std.proofs.Common.{sym, subst, take, ◌+◌}
use Rattle.ifs_prove.specs.Claiming.{IsOneOf}
use Rattle.ifs_prove.specs.declared.judging.Denied.TheVariants.{MoveFrom}
use Rattle.ifs_prove.specs.inner.Judging.{AreToldOfMoves, IsOpenFor, IsOpenOf, MovesToOne, NeverToAny}
use Rattle.ifs_prove.proofs.Judged.{none_said, next_said, all_said, one_said, none_open, next_open}
use Rattle.ifs_solver.proofs.Paying.{spent_by_both, unspent}
use Rattle.ifs_prove.proofs.judging.never_moves.Goals as goal

pub loop-state-init : goal.loop-state-init
loop-state-init c = record {
  told = none_said (NeverToAny c.args.entered.now c.args.to.now) (MovesToOne c.args.entered.now c.args.to.now) c.args.from.now;
  unanswered = none_open (NeverToAny c.args.entered.now c.args.to.now) (MovesToOne c.args.entered.now c.args.to.now) c.args.from.now (λ state. IsOneOf c.args.to.now (IsOpenOf c.args.entered.now (MoveFrom state))) c.args.budget.now;
  spent = unspent c.args.budget.now;
}

pub loop-state-preserved : goal.loop-state-preserved
loop-state-preserved c =
    let h = c.loop-state.invariant in
    record {
      told =
          subst (AreToldOfMoves c.args.entered.now c.args.from.now (take (c.loop-state.state-index + 1) c.args.from.now) c.args.to.now) (sym c.either-told.ensures)
          (next_said (NeverToAny c.args.entered.now c.args.to.now) (MovesToOne c.args.entered.now c.args.to.now) c.args.from.now c.loop-state.state-index _ c.loop-state.told c.in_ok-more.more c.loop-state-test.true h.told c.in_ok-more.ensures.told);
      unanswered =
          subst (IsOpenFor c.args.from.now (λ state. IsOneOf c.args.to.now (IsOpenOf c.args.entered.now (MoveFrom state))) c.args.budget.now c.never_any.new.budget) (sym c.either-told.ensures)
          (next_open (NeverToAny c.args.entered.now c.args.to.now) (MovesToOne c.args.entered.now c.args.to.now) c.args.from.now (λ state. IsOneOf c.args.to.now (IsOpenOf c.args.entered.now (MoveFrom state))) c.loop-state.state-index _ c.loop-state.told c.in_ok-more.more c.args.budget.now c.loop-state.budget c.never_any.new.budget c.loop-state-test.true h.spent c.in_ok-more.ensures.spent h.unanswered
          c.in_ok-more.ensures.undecided);
      spent = spent_by_both c.args.budget.now c.loop-state.budget c.never_any.new.budget h.spent c.in_ok-more.ensures.spent;
    }

pub returns-in-Somewhere-clause-told : goal.returns-in-Somewhere-clause-told
returns-in-Somewhere-clause-told c =
    one_said (NeverToAny c.args.entered.now c.args.to.now) (MovesToOne c.args.entered.now c.args.to.now) c.args.from.now c.loop-state.state-index c.loop-state.told c.in-Somewhere.is
    c.loop-state.invariant.told

pub returns-clause-told : goal.returns-clause-told
returns-clause-told c =
    all_said (NeverToAny c.args.entered.now c.args.to.now) (MovesToOne c.args.entered.now c.args.to.now) c.args.from.now c.loop-state.state-index c.loop-state.told c.loop-state-test.false
    c.loop-state.invariant.told
