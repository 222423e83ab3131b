-- State by state.
use Rattle.std.proofs.Common.{sym, subst, ◌+◌, arith}
use Rattle.ifs_base.specs.declared.ids.StateId.{StateId}
use Rattle.ifs_solver.specs.Asking.{guard_of}
use Rattle.ifs_claims.specs.Told.{IsToldOfRests, WouldRestElsewhere}
use Rattle.ifs_claims.specs.inner.Elsewhere.{HoldsIn, IsElsewhereBefore}
use Rattle.ifs_claims.proofs.Answering.{answered_next}
use Rattle.ifs_claims.proofs.Elsewhere.{none_before, rests_told}
use Rattle.ifs_claims.proofs.claims.rests_in.Goals as goal

pub loop-index-init : goal.loop-index-init
loop-index-init c = none_before c.args.reachable.now c.args.states.now (guard_of c.args.guard)

pub loop-index-preserved : goal.loop-index-preserved
loop-index-preserved c =
    let state : StateId = record { 0 = c.loop-index.index } in
    subst (IsElsewhereBefore c.args.reachable.now c.args.states.now (guard_of c.args.guard) (c.loop-index.index + 1)) (sym c.either-extent.ensures)
    (answered_next (WouldRestElsewhere c.args.reachable.now c.args.states.now (guard_of c.args.guard)) (HoldsIn c.args.reachable.now c.args.states.now (guard_of c.args.guard)) state c.loop-index.extent c.in_ok-more.more c.loop-index.invariant c.in_ok-more.ensures)

pub returns-clause-told : goal.returns-clause-told
returns-clause-told c =
    rests_told c.args.reachable.now c.args.states.now (guard_of c.args.guard) c.loop-index.index c.loop-index.extent c.within-2.result c.count-count.ensures.fits (omega (arith, c.count-count.ensures.count, c.loop-index-test.false))
    c.loop-index.invariant c.within-2.ensures.told

pub returns-in-Somewhere-clause-told : goal.returns-in-Somewhere-clause-told
returns-in-Somewhere-clause-told c =
    subst (IsToldOfRests c.args.reachable.now c.args.states.now (guard_of c.args.guard)) (sym c.within.ensures.told)
    (subst (IsElsewhereBefore c.args.reachable.now c.args.states.now (guard_of c.args.guard) c.loop-index.index) c.in-Somewhere.is c.loop-index.invariant)
