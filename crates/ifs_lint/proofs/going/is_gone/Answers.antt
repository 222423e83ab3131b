-- The core has made the steps up to the round.
use Rattle.std.proofs.Common.{[]}
use Rattle.std.proofs.lemmas.Bool.{OnTrue_at, OnTrue_from}
use Rattle.ifs_core.specs.Gateway.{nothing_known}
use Rattle.ifs_gen.specs.PolicyImage.{image_of}
use Rattle.ifs_lint.proofs.Twice.{goes_round}
use Rattle.ifs_lint.proofs.going.is_gone.Goals as goal

pub returns-in_ok-goes-in-Some : goal.returns-in_ok-goes-in-Some
returns-in_ok-goes-in-Some c = λ written.
    let policy = c.args.policy.now in
    let trial = c.args.trial.now in
    let begun = c.as_slice.result.now in
    let known = nothing_known (image_of policy) in
    let opened = rw c.in-Some.is at c.in_ok-core.ensures policy c.counts-counts.ensures.fits written in
    let goes = c.in_ok-goes-in-Some.ensures known begun (c.make_steps.ensures policy known [] opened) in
    OnTrue_from c.in_ok-goes-in-Some.goes _ (λ e. goes_round policy begun trial.steps.items trial.results.items trial.states.items (OnTrue_at e goes))
