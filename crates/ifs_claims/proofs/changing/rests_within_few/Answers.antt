-- State by state.
use Rattle.std.proofs.Common.{sym, subst, ◌+◌, arith}
use Rattle.ifs_base.specs.declared.ids.StateId.{StateId}
use Rattle.ifs_claims.specs.Changes.{IsToldOfChanges, WouldChange}
use Rattle.ifs_claims.specs.inner.Changing.{IsQuietFor, AreQuietFor}
use Rattle.ifs_claims.proofs.Answering.{answered_next}
use Rattle.ifs_claims.proofs.Worlds.{changes_told}
use Rattle.ifs_claims.proofs.changing.rests_within_few.Goals as goal

pub loop-index-init : goal.loop-index-init
loop-index-init c = λ state lt. absurd (omega (arith, lt))

pub loop-index-preserved : goal.loop-index-preserved
loop-index-preserved c =
    let state : StateId = record { 0 = c.loop-index.index } in
    subst (AreQuietFor c.args.reachable.now c.args.most (c.loop-index.index + 1)) (sym c.either-extent.ensures)
    (answered_next (WouldChange c.args.reachable.now c.args.most) (IsQuietFor c.args.reachable.now c.args.most) state c.loop-index.extent c.in_ok-more.more c.loop-index.invariant c.in_ok-more.ensures)

pub returns-clause-told : goal.returns-clause-told
returns-clause-told c =
    changes_told c.args.reachable.now c.args.most c.loop-index.index c.loop-index.extent c.within-2.result c.count-count.ensures.fits (omega (arith, c.count-count.ensures.count, c.loop-index-test.false)) c.loop-index.invariant
    c.within-2.ensures.told

pub returns-in-Somewhere-clause-told : goal.returns-in-Somewhere-clause-told
returns-in-Somewhere-clause-told c =
    subst (IsToldOfChanges c.args.reachable.now c.args.most) (sym c.within.ensures.told) (subst (AreQuietFor c.args.reachable.now c.args.most c.loop-index.index) c.in-Somewhere.is c.loop-index.invariant)
