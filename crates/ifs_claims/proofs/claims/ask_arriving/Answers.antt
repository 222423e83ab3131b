-- By evaluations under facts before the entry.
use Rattle.std.proofs.Common.{◌∙◌, ap}
use Rattle.ifs_solver.specs.Asking.{guard_of, guard_with}
use Rattle.ifs_claims.specs.inner.Kept.{kept_condition}
use Rattle.ifs_claims.proofs.Truths.{arriving_said}
use Rattle.ifs_claims.proofs.claims.ask_arriving.Goals as goal

pub returns : goal.returns
returns c =
    let guard = guard_of c.args.guard in
    arriving_said c.active_are_mentioned.ensures c.args.reachable.now c.args.state guard (guard_of c.with-guard_before.result) c.in_ok-extent.extent c.count-fits.ensures.fits
    (c.with-guard_before.ensures ∙ ap (λ x. guard_with x guard)
    (c.in_ok-before.ensures ∙ ap (λ x. kept_condition x.body c.condition-asked.result.now) c.always.ensures ∙ ap (kept_condition c.args.reachable.now.always.body) c.condition-asked.ensures))
    c.in_ok-extent.ensures
