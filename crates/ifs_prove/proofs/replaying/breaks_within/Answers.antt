-- Changes in a world.
use Rattle.std.proofs.Common.{◌<◌, sym, subst, arith}
use Rattle.std.specs.Bool.{OnTrue}
use Rattle.ifs_claim_parse.specs.declared.claim.Claim.{Claim}
use Rattle.ifs_claim_parse.specs.declared.claim.Claim.TheVariants as claims
use Rattle.ifs_prove.specs.Breaking.{IsBrokenWithin}
use Rattle.ifs_prove.specs.inner.Making.{AreResults}
use Rattle.ifs_prove.proofs.Truly.{on_more}
use Rattle.ifs_prove.proofs.Within.{broken_within}
use Rattle.ifs_prove.proofs.replaying.breaks_within.Goals as goal

pub returns : goal.returns
returns c = λ known begun h.
    let policy = c.args.policy.now in
    let steps = c.args.steps.now in
    let results = c.args.results.now in
    let count = c.count_changes.result in
    let most = c.in-RestsWithin.most in
    let is_more = c.is_more.result in
    subst (λ (claim : Claim). OnTrue is_more (IsBrokenWithin policy known begun steps results claim)) (sym c.in-RestsWithin.is)
    (on_more (most < count) (IsBrokenWithin policy known begun steps results (claims.RestsWithin most)) is_more (λ more.
    broken_within c.facts_stay.ensures c.cores_are_in_situations.ensures policy known begun steps results c.args.core.now most count h (omega (arith, c.if-results-from.false, c.from.ensures, c.counts-count.ensures.tests))
    (subst (AreResults c.args.core.now.state.position.facts.tests results) c.counts-count.ensures.tests c.if-not-agrees.ensures) c.if-not-keep.ensures (c.count_changes.ensures policy known begun h) more)
    c.is_more.ensures)
