-- State by state.
use Rattle.std.proofs.Common.{sym, subst, ◌+◌, arith}
use Rattle.ifs_base.specs.declared.ids.StateId.{StateId}
use Rattle.ifs_solver.specs.Asking.{guard_of}
use Rattle.ifs_claims.specs.Told.{WouldEnter}
use Rattle.ifs_claims.specs.inner.Entering.{IsQuietFrom, IsFromBefore}
use Rattle.ifs_claims.proofs.Answering.{answered_next}
use Rattle.ifs_claims.proofs.Entries.{none_before, entering_said}
use Rattle.ifs_claims.proofs.claims.ask_entering.Goals as goal

pub loop-index-init : goal.loop-index-init
loop-index-init c = none_before c.args.reachable.now c.args.next (guard_of c.args.guard)

pub loop-index-preserved : goal.loop-index-preserved
loop-index-preserved c =
    let state : StateId = record { 0 = c.loop-index.index } in
    subst (IsFromBefore c.args.reachable.now c.args.next (guard_of c.args.guard) (c.loop-index.index + 1)) (sym c.either-extent.ensures)
    (answered_next (WouldEnter c.args.reachable.now c.args.next (guard_of c.args.guard)) (IsQuietFrom c.args.reachable.now c.args.next (guard_of c.args.guard)) state c.loop-index.extent c.in_ok-more.more c.loop-index.invariant c.in_ok-more.ensures)

pub returns : goal.returns
returns c =
    entering_said c.args.reachable.now c.args.next (guard_of c.args.guard) c.loop-index.index c.loop-index.extent c.count-count.ensures.fits (omega (arith, c.count-count.ensures.count, c.loop-index-test.false)) c.loop-index.invariant

pub returns-in-Somewhere : goal.returns-in-Somewhere
returns-in-Somewhere c = subst (IsFromBefore c.args.reachable.now c.args.next (guard_of c.args.guard) c.loop-index.index) c.in-Somewhere.is c.loop-index.invariant
