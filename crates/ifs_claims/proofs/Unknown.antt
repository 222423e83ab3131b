-- Within a state no test loses its value: one that has none had none when the state was entered.
use Rattle.std.proofs.Common.{◌≡◌, ℕ, zero, suc, ⊎_elim, Bool, true, false, not, ◌||◌, List, [], ◌∷◌, Option, Some, None, refl, sym, ap, ◌∙◌, subst}
use Rattle.std.specs.Prelude.{slice_get, slice_set}
use Rattle.std.specs.List.{list_any}
use Rattle.std.proofs.lemmas.Bool.{false≢true}
use Rattle.ifs_base.specs.Facts.{Facts}
use Rattle.ifs_base.specs.declared.ids.StateId.{StateId}
use Rattle.ifs_base.specs.declared.ids.TestId.{TestId}
use Rattle.ifs_core.specs.declared.step.Step.{Step}
use Rattle.ifs_core.specs.declared.step.Step.TheVariants.{Link, Finished, Tick, Take}
use Rattle.ifs_core.specs.Gateway.{Known}
use Rattle.ifs_gen.specs.Events.{ActiveAreMentioned}
use Rattle.ifs_gen.specs.Trees.{Policy}
use Rattle.ifs_policy.specs.Meaning.{Condition, has_a_value, is_open, mentioned_in}
use Rattle.ifs_solver.specs.Asking.{WhileUnknown}
use Rattle.ifs_solver.specs.Situations.{IsKnownFor, entered_by, leads_to, situation_after}
use Rattle.ifs_claims.specs.Asked.{AreFactsIn}
use Rattle.ifs_claims.specs.Claims.{IsFalseIn, NeverIn}
use Rattle.ifs_claims.specs.Moves.{seen}
use Rattle.ifs_claims.specs.inner.Moment.{IsFalseAtOpenings, IsFalseOnArrival}
use Rattle.ifs_claims.proofs.AskedFor.{steps_see_facts_in}
use Rattle.ifs_claims.proofs.Standing.{by_last, steps_evaluate}

-- What a step brings takes no value.
set_keeps : (values : List (Option Bool)) (k j : ℕ) (value : Bool) → not (has_a_value (slice_get values j)) ≡ false → not (has_a_value (slice_get (slice_set values k (Some value)) j)) ≡ false
set_keeps [] k j value e = absurd (false≢true (sym e))
set_keeps (o ∷ values) zero zero value e = refl
set_keeps (o ∷ values) zero (suc j) value e = e
set_keeps (o ∷ values) (suc k) zero value e = e
set_keeps (o ∷ values) (suc k) (suc j) value e = set_keeps values k j value e

seen_keeps : (step : Step) (facts : Facts) (test : TestId) → is_open facts test ≡ false → is_open (seen step facts) test ≡ false
seen_keeps (Link interface link) facts test e = e
seen_keeps (Finished other run value) facts test e = set_keeps facts.tests other.0 test.0 value e
seen_keeps (Tick now) facts test e = e
seen_keeps Take facts test e = e

neither : (a b : Bool) → a ≡ false → b ≡ false → (a || b) ≡ false
neither false b e f = f
neither true b e f = absurd (false≢true (sym e))

left_of : (a b : Bool) → (a || b) ≡ false → a ≡ false
left_of false b e = refl
left_of true b e = e

right_of : (a b : Bool) → (a || b) ≡ false → b ≡ false
right_of false b e = e
right_of true b e = absurd (false≢true (sym e))

seen_keeps_all : (step : Step) (facts : Facts) (tests : List TestId) → list_any (is_open facts) tests ≡ false → list_any (is_open (seen step facts)) tests ≡ false
seen_keeps_all step facts [] e = refl
seen_keeps_all step facts (test ∷ tests) e =
    neither (is_open (seen step facts) test) (list_any (is_open (seen step facts)) tests) (seen_keeps step facts test (left_of (is_open facts test) (list_any (is_open facts) tests) e))
    (seen_keeps_all step facts tests (right_of (is_open facts test) (list_any (is_open facts) tests) e))

-- A guard on tests without a value is met in a state only if it was met at the opening or on an arrival.
module _ (active : ActiveAreMentioned) (policy : Policy) (state : StateId) (condition : Condition) where
  abbrev IsKnownThere : List Step → Known → Type 0
  IsKnownThere steps known = IsFalseIn state (WhileUnknown condition) (situation_after policy known steps)

  after_evaluation : IsFalseOnArrival policy state (WhileUnknown condition) → (known : Known) → IsKnownFor policy known → (done : List Step) (step : Step) → IsKnownThere done known
      → AreFactsIn policy (situation_after policy known done).current (seen step (situation_after policy known done).facts) → (o : Option StateId)
      → leads_to policy (seen step (situation_after policy known done).facts) (situation_after policy known done).current ≡ o
      → IsFalseIn state (WhileUnknown condition) (entered_by policy (seen step (situation_after policy known done).facts) (situation_after policy known done).current o)
  after_evaluation arrival known fits done step h asked None leads = λ here. seen_keeps_all step (situation_after policy known done).facts (mentioned_in condition) (h here)
  after_evaluation arrival known fits done step h asked (Some next) leads = λ here. arrival known fits done (seen step (situation_after policy known done).facts) asked (leads ∙ ap (λ x. Some x) here)

  pub stays_known : IsFalseAtOpenings policy state (WhileUnknown condition) → IsFalseOnArrival policy state (WhileUnknown condition) → NeverIn policy state (WhileUnknown condition)
  stays_known opening arrival known fits steps =
      by_last (λ done. IsKnownThere done known)
      (λ done step h.
      let before = situation_after policy known done in
      let facts = seen step before.facts in
      ⊎_elim (λ same. subst (IsFalseIn state (WhileUnknown condition)) (sym same) h)
      (λ come.
      ⊎_elim (λ still. subst (IsFalseIn state (WhileUnknown condition)) (sym still.0) h)
      (λ asked. subst (IsFalseIn state (WhileUnknown condition)) (sym come.1) (after_evaluation arrival known fits done step h asked (leads_to policy facts before.current) refl))
      (steps_see_facts_in active policy known fits done step))
      (steps_evaluate policy known fits done step).situation)
      [] steps (opening known fits)
