-- State by state.
use Rattle.std.proofs.Common.{sym, subst, ap, ◌∙◌, ◌+◌, arith}
use Rattle.ifs_base.specs.declared.ids.StateId.{StateId}
use Rattle.ifs_solver.specs.Asking.{guard_of}
use Rattle.ifs_claims.specs.Told.{WouldRun}
use Rattle.ifs_claims.specs.inner.Kept.{kept_block}
use Rattle.ifs_claims.specs.inner.Running.{IsQuietInitFrom, AreInitsBefore}
use Rattle.ifs_claims.proofs.Answering.{answered_next}
use Rattle.ifs_claims.proofs.Quiet.{inits_said, no_init_before}
use Rattle.ifs_claims.proofs.running.ask_entered_init.Goals as goal

pub ask_init_from-requires : goal.ask_init_from-requires
ask_init_from-requires c =
    record { fits = c.count-count.ensures.fits; part = c.args.part.now; there = c.requires; init_is = c.in_ok-init.ensures ∙ ap (λ x. kept_block x.body c.args.part.now.init) c.always.ensures }

pub loop-index-init : goal.loop-index-init
loop-index-init c = no_init_before c.args.ban.reachable.now c.args.ban.command (guard_of c.args.ban.guard) c.args.state

pub loop-index-preserved : goal.loop-index-preserved
loop-index-preserved c =
    let previous : StateId = record { 0 = c.loop-index.index } in
    subst (AreInitsBefore c.args.ban.reachable.now c.args.ban.command (guard_of c.args.ban.guard) c.args.state (c.loop-index.index + 1)) (sym c.either-extent.ensures)
    (answered_next (WouldRun c.args.ban.reachable.now c.args.ban.command (guard_of c.args.ban.guard)) (IsQuietInitFrom c.args.ban.reachable.now c.args.ban.command (guard_of c.args.ban.guard) c.args.state) previous c.loop-index.extent c.in_ok-more.more
    c.loop-index.invariant c.in_ok-more.ensures)

pub returns : goal.returns
returns c =
    inits_said c.args.ban.reachable.now c.args.ban.command (guard_of c.args.ban.guard) c.args.state c.loop-index.index c.loop-index.extent c.count-count.ensures.fits (omega (arith, c.count-count.ensures.count, c.loop-index-test.false))
    c.loop-index.invariant

pub returns-in-Somewhere : goal.returns-in-Somewhere
returns-in-Somewhere c = subst (AreInitsBefore c.args.ban.reachable.now c.args.ban.command (guard_of c.args.ban.guard) c.args.state c.loop-index.index) c.in-Somewhere.is c.loop-index.invariant
