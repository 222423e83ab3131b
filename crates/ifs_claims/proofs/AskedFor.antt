-- Facts in a state: what steps lead to, and the set of them.
use Rattle.std.proofs.Common.{◌≡◌, ℕ, zero, suc, ◌+◌, ◌<◌, ◌⊎◌, inl, inr, ⊎_elim, Bool, true, false, ◌||◌, List, [], ◌∷◌, ◌++◌, length, map, Option, Some, None, refl, sym, ap, ◌∙◌, subst, arith}
use Rattle.std.specs.Prelude.{slice_get, replicate, All}
use Rattle.std.proofs.lemmas.Bool.{false≢true}
use Rattle.std.proofs.lemmas.List.{length-set}
use Rattle.std.proofs.lemmas.List.Elements.{All-cons}
use Rattle.std.proofs.lemmas.Option.{none-some, same_Some, slice_get_within}
use Rattle.ifs_base.specs.Facts.{Facts}
use Rattle.ifs_base.specs.declared.ids.StateId.{StateId}
use Rattle.ifs_base.specs.declared.ids.TestId.{TestId}
use Rattle.ifs_core.specs.declared.step.Step.{Step}
use Rattle.ifs_core.specs.declared.step.Step.TheVariants.{Link, Finished, Tick, Take}
use Rattle.ifs_core.specs.Gateway.{Known}
use Rattle.ifs_sched.specs.Schedule.{has_test}
use Rattle.ifs_sched.proofs.Masks.{has_test-empty}
use Rattle.ifs_gen.specs.Events.{behaviour_of, mask_of_state, policy_opened, ActiveAreMentioned}
use Rattle.ifs_gen.specs.PlainSizes.{mask_of_part, room_of, test_count}
use Rattle.ifs_gen.specs.Trees.{Part, Policy}
use Rattle.ifs_policy.specs.Meaning.{Block}
use Rattle.ifs_policy.specs.Visits.{mentions}
use Rattle.ifs_solver.specs.declared.domains.Domain.{Domain}
use Rattle.ifs_solver.specs.declared.fact_sets.Scope.{Scope}
use Rattle.ifs_solver.specs.FactSets.{AreAllowed, AreFactsOf, FactSet, HasFacts, Within, any_domain, allows, has_one, scope_of, state_of}
use Rattle.ifs_solver.specs.Situations.{IsKnownFor, Situation, entered_by, leads_to, situation_after, situation_of}
use Rattle.ifs_solver.proofs.Witnesses.{all_within, so_many}
use Rattle.ifs_claims.specs.Asked.{AreFactsIn, asked_in, is_asked, ValuesAreAsked}
use Rattle.ifs_claims.specs.Moves.{IsFreshIn, IsSeenIn, StepsSeeFactsIn, queued_by, seen, state_after}
use Rattle.ifs_claims.specs.inner.AskedSets.{asked_domain, asked_domains, asked_fact_set, either_asks}
use Rattle.ifs_claims.specs.inner.Stays.{AreBodiesIn}
use Rattle.ifs_claims.proofs.Active.{active, opening_keeps, steps_keep, turn_seen}
use Rattle.ifs_claims.proofs.Shared.{mentions_of}
use Rattle.ifs_claims.proofs.Standing.{by_last, facts_stay, one_more, steps_evaluate}

-- A test that is active in a state is asked for there.
or_follows : (a b c d : Bool) → (a ≡ true → c ≡ true) → (b ≡ true → d ≡ true) → (a || b) ≡ true → (c || d) ≡ true
or_follows true b c d f g e = ap (λ x. x || d) (f refl)
or_follows false b true d f g e = refl
or_follows false b false d f g e = g e

in_part : ActiveAreMentioned → (count : ℕ) (part : Part) (test : TestId) → test.0 < count → has_test (mask_of_part count part) test.0 ≡ true → mentions test part.body ≡ true
in_part active count part test lt e = mentions_of test part.body ((active count part test.0 lt).0 e)

in_state : ActiveAreMentioned → (count : ℕ) (o : Option Part) (test : TestId) → test.0 < count → has_test (mask_of_state count o) test.0 ≡ true → asked_in test o ≡ true
in_state active count None test lt e = absurd (false≢true (sym (has_test-empty test.0) ∙ e))
in_state active count (Some part) test lt e = in_part active count part test lt e

asked_if_active : ActiveAreMentioned → (policy : Policy) (state : StateId) (test : TestId) → test.0 < length policy.tables.tests → active (behaviour_of policy) state test.0 ≡ true → is_asked policy state test ≡ true
asked_if_active are policy state test lt e =
    let count = test_count policy in
    or_follows (has_test (mask_of_part count policy.always) test.0) (has_test (mask_of_state count (slice_get policy.states state.0)) test.0) (mentions test policy.always.body) (asked_in test (slice_get policy.states state.0))
    (λ h. in_part are count policy.always test lt h) (λ h. in_state are count (slice_get policy.states state.0) test lt h) e

pub values_are_asked : ActiveAreMentioned → ValuesAreAsked
values_are_asked are policy known fits steps =
    let s = state_after policy known steps in
    let b = behaviour_of policy in
    let facts_are = facts_stay policy known fits steps in
    let keeps = steps_keep b (room_of policy) steps (policy_opened policy known) (opening_keeps b known.links (map (λ test. test.period) policy.tables.tests) known.first_run policy.initial) in
    record {
      are = facts_are;
      asked = λ test value e.
          let lt = slice_get_within s.position.facts.tests test.0 (Some value) e in
          let many : length s.position.facts.tests ≡ length policy.tables.tests = facts_are.tests in
          asked_if_active are policy s.position.current test (omega (arith, lt, many)) (keeps.values test.0 value e);
    }

seen_facts : (policy : Policy) (step : Step) (facts : Facts) → AreFactsOf (scope_of policy) facts → AreFactsOf (scope_of policy) (seen step facts)
seen_facts policy (Link interface link) facts are = record { links = length-set facts.links interface.0 link ∙ are.links; tests = are.tests }
seen_facts policy (Finished test run value) facts are = record { links = are.links; tests = length-set facts.tests test.0 (Some value) ∙ are.tests }
seen_facts policy (Tick now) facts are = are
seen_facts policy Take facts are = are

facts_in : ActiveAreMentioned → (policy : Policy) (state : StateId) (facts : Facts) → AreFactsOf (scope_of policy) facts
    → ((k : ℕ) (value : Bool) → slice_get facts.tests k ≡ Some (Some value) → active (behaviour_of policy) state k ≡ true) → AreFactsIn policy state facts
facts_in are policy state facts facts_are h = record {
  are = facts_are;
  asked = λ test value e.
      let lt = slice_get_within facts.tests test.0 (Some value) e in
      let many : length facts.tests ≡ length policy.tables.tests = facts_are.tests in
      asked_if_active are policy state test (omega (arith, lt, many)) (h test.0 value e);
}

pub steps_see_facts_in : ActiveAreMentioned → StepsSeeFactsIn
steps_see_facts_in are policy known fits steps step =
    let s = state_after policy known steps in
    let b = behaviour_of policy in
    let keeps = steps_keep b (room_of policy) steps (policy_opened policy known) (opening_keeps b known.links (map (λ test. test.period) policy.tables.tests) known.first_run policy.initial) in
    subst (λ next. IsSeenIn policy step (situation_of s.position) (situation_of next.position) (queued_by policy known steps step))
    (sym (one_more b (room_of policy) steps step (policy_opened policy known)))
    (⊎_elim (λ same. inl same) (λ sees. inr (facts_in are policy s.position.current (seen step s.position.facts) (seen_facts policy step s.position.facts (facts_stay policy known fits steps)) sees))
    (turn_seen b (room_of policy) s keeps step))

-- Where an evaluation is owed, the situation is that of the opening, or facts in the state before have led there.
pub record IsFreshAsked (policy : Policy) (s : Situation) : Type 0 where
  pub fresh : IsFreshIn policy s
  pub asked : AreFactsIn policy (situation_after policy fresh.known fresh.steps).current fresh.facts

abbrev IsAskedOrOpening : Policy → Known → Situation → Type 0
IsAskedOrOpening policy known s = s.owed ≡ true → (s ≡ situation_after policy known []) ⊎ IsFreshAsked policy s

entered_asked : (policy : Policy) (known : Known) (fits : IsKnownFor policy known) (steps : List Step) (facts : Facts) → AreFactsIn policy (situation_after policy known steps).current facts → (o : Option StateId)
    → leads_to policy facts (situation_after policy known steps).current ≡ o → (entered_by policy facts (situation_after policy known steps).current o).owed ≡ true
    → IsFreshAsked policy (entered_by policy facts (situation_after policy known steps).current o)
entered_asked policy known fits steps facts are None leads owed = absurd (false≢true owed)
entered_asked policy known fits steps facts are (Some next) leads owed =
    record { fresh = record { known = known; fits = fits; steps = steps; facts = facts; are = are.are; leads = leads; links = refl; kept = refl }; asked = are }

pub owed_are_asked : ActiveAreMentioned → (policy : Policy) (known : Known) → IsKnownFor policy known → (steps : List Step) → IsAskedOrOpening policy known (situation_after policy known steps)
owed_are_asked active policy known fits steps =
    by_last (λ done. IsAskedOrOpening policy known (situation_after policy known done))
    (λ done step h.
    let before = situation_after policy known done in
    let facts = seen step before.facts in
    ⊎_elim (λ same. subst (IsAskedOrOpening policy known) (sym same) h)
    (λ come.
    ⊎_elim (λ still. subst (IsAskedOrOpening policy known) (sym still.0) h)
    (λ asked. subst (IsAskedOrOpening policy known) (sym come.1) (λ owed. inr (entered_asked policy known fits done facts asked (leads_to policy facts before.current) refl owed)))
    (steps_see_facts_in active policy known fits done step))
    (steps_evaluate policy known fits done step).situation)
    [] steps (λ owed. inl refl)

-- The domains of the tests from one on.
asked_push : (always own : Block) (first n : ℕ) → asked_domains always own first (suc n) ≡ asked_domains always own first n ++ asked_domain (either_asks always own (first + n)) ∷ []
asked_push always own first zero = let e : first ≡ first + 0 = omega arith in ap (λ k. asked_domain (either_asks always own k) ∷ []) e
asked_push always own first (suc n) =
    ap (λ xs. asked_domain (either_asks always own first) ∷ xs)
    (asked_push always own (first + 1) n ∙ (let e : first + 1 + n ≡ first + suc n = omega arith in ap (λ k. asked_domains always own (first + 1) n ++ asked_domain (either_asks always own k) ∷ []) e))

pub asked_more : (always own : Block) (n : ℕ) (made more : List Domain) (domain : Domain) → made ≡ asked_domains always own 0 n → more ≡ made ++ domain ∷ [] → domain ≡ asked_domain (either_asks always own n) → more ≡ asked_domains always own 0 (n + 1)
asked_more always own n made more domain made_is more_is domain_is =
    let next : suc n ≡ n + 1 = omega arith in
    let here : n ≡ 0 + n = omega arith in
    more_is ∙ ap (λ xs. xs ++ domain ∷ []) made_is ∙ ap (λ d. asked_domains always own 0 n ++ d ∷ []) domain_is ∙ ap (λ k. asked_domains always own 0 n ++ asked_domain (either_asks always own k) ∷ []) here
    ∙ sym (asked_push always own 0 n) ∙ ap (asked_domains always own 0) next

-- The set has facts.
pub has_any : (n : ℕ) → All (λ domain. has_one domain ≡ true) (replicate n any_domain)
has_any zero = λ i d lt. absurd (omega (arith, lt))
has_any (suc n) = All-cons (λ domain. has_one domain ≡ true) any_domain (replicate n any_domain) refl (has_any n)

one_asked : (c : Bool) → has_one (asked_domain c) ≡ true
one_asked true = refl
one_asked false = refl

has_asked : (always own : Block) (first n : ℕ) → All (λ domain. has_one domain ≡ true) (asked_domains always own first n)
has_asked always own first zero = λ i d lt. absurd (omega (arith, lt))
has_asked always own first (suc n) =
    All-cons (λ domain. has_one domain ≡ true) (asked_domain (either_asks always own first)) (asked_domains always own (first + 1) n) (one_asked (either_asks always own first)) (has_asked always own (first + 1) n)

pub asked_has : (scope : Scope) (always own : Block) (set : FactSet) → set ≡ asked_fact_set scope always own → HasFacts set
asked_has scope always own set is = subst HasFacts (sym is) (record { links = has_any scope.links; tests = has_asked always own 0 scope.tests })

-- Facts are within it if only tests that are asked for have a value, and conversely.
allowed_if : (c : Bool) (o : Option Bool) → ((value : Bool) → o ≡ Some value → c ≡ true) → allows (state_of o) (asked_domain c) ≡ true
allowed_if true None h = refl
allowed_if true (Some true) h = refl
allowed_if true (Some false) h = refl
allowed_if false None h = refl
allowed_if false (Some value) h = absurd (false≢true (h value refl))

asked_if_allowed : (c : Bool) (value : Bool) → allows (state_of (Some value)) (asked_domain c) ≡ true → c ≡ true
asked_if_allowed true value e = refl
asked_if_allowed false true e = e
asked_if_allowed false false e = e

abbrev AreAsked : Block → Block → ℕ → List (Option Bool) → Type 0
AreAsked always own first values = (k : ℕ) (value : Bool) → slice_get values k ≡ Some (Some value) → either_asks always own (first + k) ≡ true

are_allowed : (always own : Block) (first n : ℕ) (values : List (Option Bool)) → length values ≡ n → AreAsked always own first values → AreAllowed (asked_domains always own first n) (map state_of values)
are_allowed always own first zero [] many h = tt
are_allowed always own first zero (o ∷ values) many h = absurd (omega (arith, many))
are_allowed always own first (suc n) [] many h = absurd (omega (arith, many))
are_allowed always own first (suc n) (o ∷ values) many h = (
  allowed_if (either_asks always own first) o (λ value e. let same : first + 0 ≡ first = omega arith in ap (either_asks always own) (sym same) ∙ h 0 value (ap (λ x. Some x) e)),
  are_allowed always own (first + 1) n values (omega (arith, many)) (λ k value e. let same : first + 1 + k ≡ first + suc k = omega arith in ap (either_asks always own) same ∙ h (suc k) value e),
)

are_asked : (always own : Block) (first n : ℕ) (values : List (Option Bool)) → AreAllowed (asked_domains always own first n) (map state_of values) → (length values ≡ n) × AreAsked always own first values
are_asked always own first zero [] h = (refl, λ k value e. absurd (none-some (Some value) e))
are_asked always own first zero (o ∷ values) h = absurd h
are_asked always own first (suc n) [] h = absurd h
are_asked always own first (suc n) (o ∷ values) h =
    let rest = are_asked always own (first + 1) n values h.1 in
    (ap suc rest.0, at rest.1)
  where
    at : AreAsked always own (first + 1) values → AreAsked always own first (o ∷ values)
    at rest zero value e =
        let same : first ≡ first + 0 = omega arith in
        ap (either_asks always own) (sym same) ∙ asked_if_allowed (either_asks always own first) value (subst (λ x. allows (state_of x) (asked_domain (either_asks always own first)) ≡ true) (same_Some o (Some value) e) h.0)
    at rest (suc k) value e = let same : first + 1 + k ≡ first + suc k = omega arith in ap (either_asks always own) (sym same) ∙ rest k value e

-- The bodies are those of the state.
asked_same : (policy : Policy) (state : StateId) (always own : Block) → AreBodiesIn policy state always own → (t : ℕ) → either_asks always own t ≡ is_asked policy state (record { 0 = t })
asked_same policy state always own are t =
    ap (λ body. mentions (record { 0 = t }) body || mentions (record { 0 = t }) own) are.always_is
    ∙ ap (λ body. mentions (record { 0 = t }) policy.always.body || mentions (record { 0 = t }) body) are.own_is
    ∙ ap (λ o. mentions (record { 0 = t }) policy.always.body || asked_in (record { 0 = t }) o) (sym are.there)

module _ (policy : Policy) (state : StateId) (always own : Block) (are : AreBodiesIn policy state always own) (set : FactSet) (is : set ≡ asked_fact_set (scope_of policy) always own) where
  pub within_asked : (facts : Facts) → AreFactsIn policy state facts → Within set facts
  within_asked facts h =
      let scope = scope_of policy in
      subst (λ x. Within x facts) (sym is) (record {
        links = (all_within scope facts h.are).links;
        tests = are_allowed always own 0 scope.tests facts.tests h.are.tests (λ k value e. let here : 0 + k ≡ k = omega arith in ap (either_asks always own) here ∙ asked_same policy state always own are k ∙ h.asked (record { 0 = k }) value e);
      })

  pub asked_within : (facts : Facts) → Within set facts → AreFactsIn policy state facts
  asked_within facts within =
      let h = subst (λ x. Within x facts) is within in
      let tests = are_asked always own 0 (length policy.tables.tests) facts.tests h.tests in
      record {
        are = record { links = so_many (length policy.tables.interfaces) facts.links h.links; tests = tests.0 };
        asked = λ test value e. let here : test.0 ≡ 0 + test.0 = omega arith in sym (asked_same policy state always own are test.0) ∙ ap (either_asks always own) here ∙ tests.1 test.0 value e;
      }
