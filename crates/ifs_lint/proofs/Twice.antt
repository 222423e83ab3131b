-- A core that goes a round of states twice.
use Rattle.std.proofs.Common.{◌≡◌, Bool, List, ◌++◌, length, Some, refl, ap, ◌∙◌, subst, arith}
use Rattle.std.specs.Prelude.{slice_get}
use Rattle.std.proofs.lemmas.Option.{slice_get_within}
use Rattle.ifs_base.specs.declared.op.LinkState.{LinkState}
use Rattle.ifs_base.specs.declared.ids.StateId.{StateId}
use Rattle.ifs_claims.specs.Changes.{AllKeepTo}
use Rattle.ifs_claims.specs.Claims.{CoresAreInSituations}
use Rattle.ifs_claims.specs.Moves.{FactsStay}
use Rattle.ifs_core.specs.declared.step.Step.{Step}
use Rattle.ifs_core.specs.Gateway.{Known, OpenCore, nothing_known}
use Rattle.ifs_gen.specs.PolicyImage.{image_of}
use Rattle.ifs_gen.specs.Trees.{Policy}
use Rattle.ifs_play.specs.Made.{HasMade}
use Rattle.ifs_solver.specs.Situations.{situation_of, situation_after, IsKnownFor}
use Rattle.ifs_lint.specs.Rounds.{GoesRound, LeadBack, entered}
use Rattle.ifs_lint.specs.inner.Going.{GoTwiceWith}
use Rattle.ifs_lint.specs.inner.Results.{AreResults}

module _ (policy : Policy) (known : Known) (begun : List Step) where
  -- A core is in the situation of the policy.
  pub in_situation : CoresAreInSituations → (core : OpenCore) → HasMade policy known begun core → situation_of core.state.position ≡ situation_after policy known begun
  in_situation law core h =
      let b = h.behaviour.0 in
      ap (λ s. situation_of s.position) (h.state b h.behaviour.1) ∙ (law policy h.fits h.code b h.behaviour.1 known h.links).situation begun

  pub state_is : CoresAreInSituations → (core : OpenCore) → HasMade policy known begun core → (state : StateId) → state ≡ core.state.position.current → state ≡ (situation_after policy known begun).current
  state_is law core h state is = is ∙ ap (λ s. s.current) (in_situation law core h)

  known_for : CoresAreInSituations → (core : OpenCore) → HasMade policy known begun core → IsKnownFor policy known
  known_for law core h = (law policy h.fits h.code h.behaviour.0 h.behaviour.1 known h.links).known_for

  -- It goes a round by the states that it enters.
  pub goes_twice : FactsStay → CoresAreInSituations → (steps : List Step) (results : List Bool) (states told : List StateId) (core : OpenCore) → HasMade policy known begun core
      → length results ≡ length policy.tables.tests → AreResults core.state.position.facts.tests results (length policy.tables.tests)
      → ((links : List LinkState) → AllKeepTo (record { links = links; results = results }) steps) → LeadBack core.state.position.current states
      → told ≡ entered policy known begun steps → told ≡ states ++ states → GoTwiceWith policy known begun steps results states
  goes_twice stay law steps results states told core h many are keep back enters twice =
      let is = in_situation law core h in
      let facts = stay policy known (known_for law core h) begun in
      record {
        agrees = record {
          links = refl;
          many = many;
          values = λ test value at.
              let within = slice_get_within (situation_after policy known begun).facts.tests test (Some value) at in
              let same = facts.tests in
              are test (omega (arith, within, same)) value (ap (λ s. slice_get s.facts.tests test) is ∙ at);
        };
        keeps = keep (situation_after policy known begun).facts.links;
        back = subst (λ s. LeadBack s.current states) is back;
        twice = rw (← enters) twice;
      }

-- A core that was opened with nothing known.
pub goes_round : (policy : Policy) (begun steps : List Step) (results : List Bool) (states : List StateId) → GoTwiceWith policy (nothing_known (image_of policy)) begun steps results states → GoesRound policy states
goes_round policy begun steps results states h = record {
  begun = begun;
  steps = steps;
  world = record { links = (situation_after policy (nothing_known (image_of policy)) begun).facts.links; results = results };
  goes = h;
}
