-- State by state.
use Rattle.std.proofs.Common.{sym, subst, ◌+◌, arith}
use Rattle.ifs_base.specs.declared.ids.StateId.{StateId}
use Rattle.ifs_solver.specs.Asking.{guard_of}
use Rattle.ifs_claims.specs.Told.{WouldRun}
use Rattle.ifs_claims.specs.inner.Running.{IsQuietState, AreStatesBefore}
use Rattle.ifs_claims.proofs.Answering.{answered_next}
use Rattle.ifs_claims.proofs.Quiet.{none_before, states_said}
use Rattle.ifs_claims.proofs.running.ask_states.Goals as goal

pub loop-index-init : goal.loop-index-init
loop-index-init c = none_before c.args.ban.reachable.now c.args.ban.command (guard_of c.args.ban.guard)

pub loop-index-preserved : goal.loop-index-preserved
loop-index-preserved c =
    let state : StateId = record { 0 = c.loop-index.index } in
    subst (AreStatesBefore c.args.ban.reachable.now c.args.ban.command (guard_of c.args.ban.guard) (c.loop-index.index + 1)) (sym c.either-extent.ensures)
    (answered_next (WouldRun c.args.ban.reachable.now c.args.ban.command (guard_of c.args.ban.guard)) (IsQuietState c.args.ban.reachable.now c.args.ban.command (guard_of c.args.ban.guard)) state c.loop-index.extent c.in_ok-more.more
    c.loop-index.invariant c.in_ok-more.ensures)

pub returns : goal.returns
returns c =
    states_said c.args.ban.reachable.now c.args.ban.command (guard_of c.args.ban.guard) c.loop-index.index c.loop-index.extent c.count-count.ensures.fits (omega (arith, c.count-count.ensures.count, c.loop-index-test.false))
    c.loop-index.invariant

pub returns-in-Somewhere : goal.returns-in-Somewhere
returns-in-Somewhere c = subst (AreStatesBefore c.args.ban.reachable.now c.args.ban.command (guard_of c.args.ban.guard) c.loop-index.index) c.in-Somewhere.is c.loop-index.invariant
