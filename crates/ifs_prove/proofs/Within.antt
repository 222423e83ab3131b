-- Changes in a world break a claim.
use Rattle.std.proofs.Common.{◌≡◌, ℕ, ◌<◌, Bool, List, length, Some, refl, ap, ◌∙◌, subst, arith}
use Rattle.std.specs.Prelude.{slice_get}
use Rattle.std.proofs.lemmas.Option.{slice_get_within}
use Rattle.ifs_base.specs.declared.op.LinkState.{LinkState}
use Rattle.ifs_claim_parse.specs.declared.claim.Claim.TheVariants as claims
use Rattle.ifs_claims.specs.Changes.{AllKeepTo, changes}
use Rattle.ifs_claims.specs.Claims.{CoresAreInSituations}
use Rattle.ifs_claims.specs.Moves.{FactsStay}
use Rattle.ifs_core.specs.declared.step.Step.{Step}
use Rattle.ifs_core.specs.Gateway.{Known, OpenCore}
use Rattle.ifs_gen.specs.Trees.{Policy}
use Rattle.ifs_solver.specs.Situations.{situation_after}
use Rattle.ifs_prove.specs.Breaking.{IsBrokenWithin}
use Rattle.ifs_play.specs.Made.{HasMade}
use Rattle.ifs_prove.specs.inner.Making.{AreResults}
use Rattle.ifs_prove.proofs.Made.{in_situation, known_for}

pub broken_within : FactsStay → CoresAreInSituations → (policy : Policy) (known : Known) (begun steps : List Step) (results : List Bool) (core : OpenCore) (most count : ℕ)
    → HasMade policy known begun core → length results ≡ length policy.tables.tests → AreResults core.state.position.facts.tests results (length policy.tables.tests)
    → ((links : List LinkState) → AllKeepTo (record { links = links; results = results }) steps) → count ≡ changes policy known begun steps → most < count
    → IsBrokenWithin policy known begun steps results (claims.RestsWithin most)
broken_within stay law policy known begun steps results core most count h many are keep counts more =
    let is = in_situation policy known begun law core h in
    let facts = stay policy known (known_for policy known begun law core h) begun in
    record {
      agrees = record {
        links = refl;
        many = many;
        values = λ test value at.
            let within = slice_get_within (situation_after policy known begun).facts.tests test (Some value) at in
            let same = facts.tests in
            are test (omega (arith, within, same)) value (ap (λ s. slice_get s.facts.tests test) is ∙ at);
      };
      keeps = keep (situation_after policy known begun).facts.links;
      more = subst (λ n. most < n) counts more;
    }
