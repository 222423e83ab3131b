-- Where changes of the state may begin: in the initial state, where a state was just entered, and where nothing is owed.
use Rattle.std.proofs.Common.{◌≡◌, ℕ, suc, ◌+◌, ◌<◌, ◌≤◌, ⊎_elim, Bool, true, false, not, ◌&&◌, ◌||◌, List, [], ◌∷◌, ◌++◌, length, Option, Some, None, eqb, refl, sym, ap, ◌∙◌, subst, arith}
use Rattle.std.specs.Prelude.{slice_get, if◌then◌else◌}
use Rattle.std.specs.Bool.{OnTrue, OnFalse}
use Rattle.std.proofs.lemmas.Bool.{false≢true, true≢false, eq-eqb, not-false, and_parts, and_from, cases_eq}
use Rattle.std.proofs.lemmas.Option.{none-some, slice_get_within}
use Rattle.ifs_base.specs.Facts.{Facts}
use Rattle.ifs_base.specs.Effects.{nothing_yet, later_wish}
use Rattle.ifs_base.specs.declared.ids.StateId.{StateId}
use Rattle.ifs_core.specs.declared.step.Step.{Step}
use Rattle.ifs_core.specs.Event.{change_of}
use Rattle.ifs_core.specs.Gateway.{Known}
use Rattle.ifs_gen.specs.Events.{behaviour_of, yield_in, ActiveAreMentioned}
use Rattle.ifs_gen.specs.Trees.{Part, Policy}
use Rattle.ifs_policy.specs.Fits.{PolicyFits}
use Rattle.ifs_policy.specs.Meaning.{Block, is_held, reached, body_yield}
use Rattle.ifs_solver.specs.declared.constraints.Aim.TheVariants.{To}
use Rattle.ifs_solver.specs.declared.fact_sets.Scope.{Scope}
use Rattle.ifs_solver.specs.declared.searching.Extent.{Extent}
use Rattle.ifs_solver.specs.declared.searching.Extent.TheVariants.{Somewhere, Nowhere, Undecided}
use Rattle.ifs_solver.specs.Asking.{hits, IsExtentOf, either}
use Rattle.ifs_solver.specs.FactSets.{AreFactsOf, scope_of}
use Rattle.ifs_solver.specs.Situations.{Situation, situation_after, wish_of, leads_to, entered_by, IsKnownFor, IsNeverEntered}
use Rattle.ifs_solver.proofs.Situated.{rests_stay}
use Rattle.ifs_claims.specs.Asked.{shares, untested}
use Rattle.ifs_claims.specs.Moves.{seen, kept_facts, IsFreshIn}
use Rattle.ifs_claims.specs.Changes.{World, AgreesWith, AllKeepTo, counted, changes, part_hits, may_be_silent, could_move, WouldChange}
use Rattle.ifs_claims.specs.inner.Changing.{facts_of, goes_far, GoesNever, IsQuietFor, IsQuietWhere, IsQuietEntry, IsNotLed, IsNotLedHeld, IsNeverHeld, AreNotLed, CoversTests, SharesTests, may_wait, may_wait_in, could_leave, could_start, StartsNever, IsStateQuietFor}
use Rattle.ifs_claims.specs.inner.Changing.{IsQuietAtRest, IsEntryQuiet, AreEntriesQuiet}
use Rattle.ifs_claims.proofs.Standing.{by_last, facts_stay, states_stay, steps_evaluate, owed_are_fresh, leads_wish, length_kept}
use Rattle.ifs_claims.proofs.Answering.{same_state, answered_by, answered_both}
use Rattle.ifs_claims.proofs.Entries.{never_itself}
use Rattle.ifs_claims.proofs.Shared.{untested_free, shares_free, shares_mentions, seen_free, held_same, yield_same, kept_same}
use Rattle.ifs_claims.proofs.Worlds.{seen_agrees, world_facts, reached_agrees, hits_itself, or_true, own_hits, differs, any_from, any_more, less_far, steps_far, stays_agreed, within_or_past, wish_free, silent_own, always_hits, leads_could}

-- A body that is not held back yields what it reaches.
yield_free : (facts : Facts) (body : Block) → is_held facts body ≡ false → body_yield facts body ≡ reached facts body
yield_free facts body free = ap (λ held. if held then nothing_yet else reached facts body) free

-- A later wish is the wish.
later_some : (before : Option StateId) (state next other : StateId) → change_of state (later_wish before (Some other)) ≡ Some next → change_of state (Some other) ≡ Some next
later_some before state next other e = e

later_none : (before : Option StateId) → later_wish before None ≡ before
later_none before = refl

-- Facts at rest in a state, and those that a step sees there: if an evaluation leads away then, some body was held back before.
module _ (policy : Policy) (world : World) (facts : Facts) (step : Step) (h : AgreesWith policy world facts) (k : AgreesWith policy world (seen step facts)) (state : StateId)
    (rests : leads_to policy facts state ≡ None) where
  abbrev after : Facts
  after = seen step facts

  -- A body that is not held back before does the same afterwards.
  yield_stays : (body : Block) → is_held facts body ≡ false → body_yield facts body ≡ body_yield after body
  yield_stays body free =
      let later = seen_free step facts body free in
      yield_free facts body free ∙ reached_agrees policy world facts h body free ∙ sym (reached_agrees policy world after k body later) ∙ sym (yield_free after body later)

  held_or_same : (body : Block) (c : Bool) → is_held facts body ≡ c → (body_yield after body).wish ≡ None → (body_yield facts body).wish ≡ None
  held_or_same body true held none = ap (λ c. (if c then nothing_yet else reached facts body).wish) held
  held_or_same body false free none = ap (λ x. x.wish) (yield_stays body free) ∙ none

  own_none : (o : Option Part) → (yield_in (λ part. body_yield after part.body) o).wish ≡ None → (yield_in (λ part. body_yield facts part.body) o).wish ≡ None
  own_none None none = none
  own_none (Some part) none = held_or_same part.body (is_held facts part.body) refl none

  module _ (held : Bool) (never : held ≡ false → is_held facts policy.always.body ≡ false) (next : StateId) (leads : leads_to policy after state ≡ Some next) where
    -- The body of the state decides, so it was held back.
    free_by : (c : Bool) (body : Block) → (c ≡ false → is_held facts policy.always.body ≡ false) → may_wait c policy.always.body body ≡ false → is_held facts body ≡ false
    free_by true body f e = untested_free facts body (not-false (untested body) e)
    free_by false body f e = shares_free facts policy.always.body body (not-false (shares policy.always.body body) e) (f refl)

    waits : (o : Option Part) (b : Bool) → slice_get policy.states state.0 ≡ o → may_wait_in held policy.always.body o ≡ b → (yield_in (λ part. body_yield after part.body) o).wish ≡ Some next → b ≡ true
    waits None b at e wish = absurd (none-some next wish)
    waits (Some part) true at e wish = refl
    waits (Some part) false at e wish =
        absurd
        (none-some next
        (sym rests
        ∙ ap (λ o. change_of state (later_wish (body_yield facts policy.always.body).wish (yield_in (λ p. body_yield facts p.body) o).wish)) at
        ∙ ap (λ w. change_of state (later_wish (body_yield facts policy.always.body).wish w)) (ap (λ x. x.wish) (yield_stays part.body (free_by held part.body never e)) ∙ wish)
        ∙ ap (λ w. change_of state (later_wish (body_yield after policy.always.body).wish w)) (sym wish)
        ∙ ap (λ o. change_of state (later_wish (body_yield after policy.always.body).wish (yield_in (λ p. body_yield after p.body) o).wish)) (sym at)
        ∙ leads))

    -- The always body decides, so it was held back.
    was_held : (c : Bool) → held ≡ c → (yield_in (λ part. body_yield after part.body) (slice_get policy.states state.0)).wish ≡ None → held ≡ true
    was_held true e none = e
    was_held false e none =
        absurd
        (none-some next
        (sym rests
        ∙ ap (λ w. change_of state (later_wish (body_yield facts policy.always.body).wish w)) (own_none (slice_get policy.states state.0) none)
        ∙ ap (λ x. change_of state (later_wish x.wish None)) (yield_stays policy.always.body (never e))
        ∙ ap (λ w. change_of state (later_wish (body_yield after policy.always.body).wish w)) (sym none)
        ∙ leads))

    abbrev own_wish : Option StateId
    own_wish = (yield_in (λ part. body_yield after part.body) (slice_get policy.states state.0)).wish

    abbrev one : Bool
    one = may_wait_in held policy.always.body (slice_get policy.states state.0) && part_hits (facts_of world) next.0 (slice_get policy.states state.0)

    abbrev two : Bool
    two = held && (may_be_silent policy.always.body (facts_of world) (slice_get policy.states state.0) && hits (To next) (reached (facts_of world) policy.always.body).wish)

    -- What was held back is what leads away.
    leaves_by : (own : Option StateId) → own_wish ≡ own → later_wish (body_yield after policy.always.body).wish own ≡ Some next → (one || two) ≡ true
    leaves_by None is wish =
        or_true policy world after k one two
        (and_from held (may_be_silent policy.always.body (facts_of world) (slice_get policy.states state.0) && hits (To next) (reached (facts_of world) policy.always.body).wish) (was_held held refl is)
        (and_from (may_be_silent policy.always.body (facts_of world) (slice_get policy.states state.0)) (hits (To next) (reached (facts_of world) policy.always.body).wish)
        (silent_own policy world after k (slice_get policy.states state.0) (wish_free policy world after k policy.always.body next wish) is) (always_hits policy world after k next wish)))
    leaves_by (Some other) is wish =
        let mine : own_wish ≡ Some next = is ∙ wish in
        ap (λ x. x || two)
        (and_from (may_wait_in held policy.always.body (slice_get policy.states state.0)) (part_hits (facts_of world) next.0 (slice_get policy.states state.0))
        (waits (slice_get policy.states state.0) (may_wait_in held policy.always.body (slice_get policy.states state.0)) refl refl mine)
        (own_hits policy world after k state next (slice_get policy.states state.0) refl mine))

    pub could_leave_by : could_leave (may_wait_in held policy.always.body (slice_get policy.states state.0)) held policy.always.body policy.states (facts_of world) state next.0 ≡ true
    could_leave_by =
        and_from (not (eqb next.0 state.0)) (one || two) (differs policy world after k state next (wish_of policy after state) leads)
        (leaves_by own_wish refl (leads_wish state next (wish_of policy after state) leads))

-- Steps that change nothing count nothing.
counted_same : (c : Bool) (n : ℕ) → c ≡ true → counted c n ≡ n
counted_same true n e = refl
counted_same false n e = absurd (false≢true e)

counted_least : (c : Bool) (n most : ℕ) → suc n ≤ most → counted c n ≤ most
counted_least true n most le = omega (arith, le)
counted_least false n most le = le

-- Steps from a rest.
module _ (policy : Policy) (policy_fits : PolicyFits policy) (world : World) (known : Known) (fits : IsKnownFor policy known) (most : ℕ) (state : StateId) (held : Bool)
    (never : held ≡ false → IsNeverHeld policy state) (starts : StartsNever policy (may_wait_in held policy.always.body (slice_get policy.states state.0)) held most state) where
  abbrev Rests : List Step → Type 0
  Rests begun = ((situation_after policy known begun).current ≡ state) × ((situation_after policy known begun).owed ≡ false) × AgreesWith policy world (situation_after policy known begun).facts

  abbrev before : List Step → Situation
  before begun = situation_after policy known begun

  -- A step that leads away.
  away : (begun : List Step) (step : Step) (n : ℕ) (next : StateId) → Rests begun → AgreesWith policy world (seen step (before begun).facts) → leads_to policy (seen step (before begun).facts) (before begun).current ≡ Some next
      → next.0 < length policy.states → AreFactsOf (scope_of policy) (facts_of world) → goes_far policy (facts_of world) n next ≡ true → suc n ≤ most
  away begun step n next at seen_so leads lt are far =
      let o = slice_get policy.states state.0 in
      let rests = subst (λ s. leads_to policy (before begun).facts s ≡ None) at.0 (rests_stay policy known fits begun at.1) in
      let could = could_leave_by policy world (before begun).facts step at.2 seen_so state rests held (λ e. never e known fits begun at.0) next (subst (λ s. leads_to policy (seen step (before begun).facts) s ≡ Some next) at.0 leads) in
      ⊎_elim (λ le. le)
      (λ past.
      absurd
      (true≢false
      (sym
      (any_from
      (λ other. could_leave (may_wait_in held policy.always.body o) held policy.always.body policy.states (facts_of world) state other && goes_far policy (facts_of world) most (record { 0 = other })) (length policy.states)
      next.0 lt
      (and_from (could_leave (may_wait_in held policy.always.body o) held policy.always.body policy.states (facts_of world) state next.0) (goes_far policy (facts_of world) most next) could
      (less_far policy.always.body policy.states (length policy.states) (facts_of world) most n next (omega (arith, past)) far)))
      ∙ starts (facts_of world) are)))
      (within_or_past (suc n) most)

  -- One step, and as many changes after it.
  one_rest : (begun : List Step) (step : Step) (n : ℕ) → Rests begun → AgreesWith policy world (seen step (before begun).facts) → (Rests (begun ++ step ∷ []) → n ≤ most)
      → goes_far policy (facts_of world) n (before (begun ++ step ∷ [])).current ≡ true → counted (eqb (before (begun ++ step ∷ [])).current.0 (before begun).current.0) n ≤ most
  one_rest begun step n at agreed more far =
      ⊎_elim (λ same. stayed same (ap (λ s. s.current) same ∙ at.0, ap (λ s. s.owed) same ∙ at.1, subst (λ s. AgreesWith policy world s.facts) (sym same) at.2))
      (λ come. by_lead (leads_to policy facts (before begun).current) refl come.1) (steps_evaluate policy known fits begun step).situation
    where
      now : List Step
      now = begun ++ step ∷ []

      facts : Facts
      facts = seen step (before begun).facts

      count : ((before now).current ≡ (before begun).current) → n ≤ most → counted (eqb (before now).current.0 (before begun).current.0) n ≤ most
      count same le =
          subst (λ m. m ≤ most)
          (sym (counted_same (eqb (before now).current.0 (before begun).current.0) n (eq-eqb (before now).current.0 (before begun).current.0 (ap (λ s. s.0) same)))) le

      stayed : before now ≡ before begun → Rests now → counted (eqb (before now).current.0 (before begun).current.0) n ≤ most
      stayed same rests = count (ap (λ s. s.current) same) (more rests)

      by_lead : (o : Option StateId) → leads_to policy facts (before begun).current ≡ o → before now ≡ entered_by policy facts (before begun).current (leads_to policy facts (before begun).current)
          → counted (eqb (before now).current.0 (before begun).current.0) n ≤ most
      by_lead None leads is =
          let come : before now ≡ entered_by policy facts (before begun).current None = is ∙ ap (entered_by policy facts (before begun).current) leads in
          count (ap (λ s. s.current) come) (more (ap (λ s. s.current) come ∙ at.0, ap (λ s. s.owed) come, subst (λ s. AgreesWith policy world s.facts) (sym come) agreed))
      by_lead (Some next) leads is =
          let come : before now ≡ entered_by policy facts (before begun).current (Some next) = is ∙ ap (entered_by policy facts (before begun).current) leads in
          let there = states_stay policy policy_fits known fits now in
          let to : (before now).current ≡ next = ap (λ s. s.current) come in
          counted_least (eqb (before now).current.0 (before begun).current.0) n most
          (away begun step n next at agreed leads (subst (λ s. s.0 < length policy.states) to (slice_get_within policy.states (before now).current.0 there.0 there.1))
          (world_facts policy world (before begun).facts at.2 (facts_stay policy known fits begun)) (subst (λ s. goes_far policy (facts_of world) n s ≡ true) to far))

  rest_steps : (steps begun : List Step) → Rests begun → AllKeepTo world steps → changes policy known begun steps ≤ most
  rest_steps [] begun at keeps = omega arith
  rest_steps (step ∷ steps) begun at keeps =
      one_rest begun step (changes policy known (begun ++ step ∷ []) steps) at (seen_agrees policy world (before begun).facts step at.2 keeps.0) (λ later. rest_steps steps (begun ++ step ∷ []) later keeps.1)
      (steps_far policy policy_fits world known fits steps (begun ++ step ∷ []) (stays_agreed policy policy_fits world known fits begun step at.2 keeps.0) keeps.1)

pub rest_quiet : (policy : Policy) (most : ℕ) (state : StateId) (held : Bool) → PolicyFits policy → (held ≡ false → IsNeverHeld policy state)
    → StartsNever policy (may_wait_in held policy.always.body (slice_get policy.states state.0)) held most state → IsQuietWhere false policy most state
rest_quiet policy most state held policy_fits never starts known fits begun world owed here agrees steps keeps =
    rest_steps policy policy_fits world known fits most state held never starts steps begun (here, owed, agrees) keeps

-- Steps from a state that no facts leave so often.
far_quiet : (policy : Policy) (most : ℕ) (state : StateId) (policy_fits : PolicyFits policy) (known : Known) (fits : IsKnownFor policy known) (begun : List Step) (world : World)
    → (situation_after policy known begun).current ≡ state → AgreesWith policy world (situation_after policy known begun).facts → goes_far policy (facts_of world) (suc most) state ≡ false → (steps : List Step) → AllKeepTo world steps
    → changes policy known begun steps ≤ most
far_quiet policy most state policy_fits known fits begun world here agrees never steps keeps =
    let n = changes policy known begun steps in
    ⊎_elim (λ le. le)
    (λ past.
    absurd
    (true≢false
    (sym
    (less_far policy.always.body policy.states (length policy.states) (facts_of world) (suc most) n state past
    (subst (λ s. goes_far policy (facts_of world) n s ≡ true) here (steps_far policy policy_fits world known fits steps begun agrees keeps)))
    ∙ never)))
    (within_or_past n most)

pub goes_quiet : (policy : Policy) (most : ℕ) (state : StateId) → PolicyFits policy → GoesNever policy (suc most) state → IsQuietFor policy most state
goes_quiet policy most state policy_fits never known fits begun world here agrees steps keeps =
    far_quiet policy most state policy_fits known fits begun world here agrees
    (never (facts_of world) (world_facts policy world (situation_after policy known begun).facts agrees (facts_stay policy known fits begun))) steps keeps

-- Where an evaluation is owed, and the state is not the initial one.
owed_quiet : (policy : Policy) (most : ℕ) (state : StateId) → PolicyFits policy → (state.0 ≡ policy.initial.0 → ⊥) → ((previous : StateId) → previous.0 < length policy.states → IsQuietEntry policy most state previous)
    → IsQuietWhere true policy most state
owed_quiet policy most state policy_fits later entries known fits begun world owed here agrees steps keeps =
    ⊎_elim (λ first. absurd (later (ap (λ s. s.0) (sym here ∙ first)))) (λ fresh. by_fresh fresh) (owed_are_fresh policy known fits begun owed)
  where
    by_fresh : IsFreshIn policy (situation_after policy known begun) → changes policy known begun steps ≤ most
    by_fresh fresh =
        let previous = (situation_after policy fresh.known fresh.steps).current in
        let there = states_stay policy policy_fits fresh.known fresh.fits fresh.steps in
        far_quiet policy most state policy_fits known fits begun world here agrees
        (entries previous (slice_get_within policy.states previous.0 there.0 there.1) fresh.known fresh.fits fresh.steps refl fresh.facts fresh.are (fresh.leads ∙ ap (λ s. Some s) here) world
        (subst (AgreesWith policy world) fresh.kept agrees))
        steps keeps

both_quiet : (policy : Policy) (most : ℕ) (state : StateId) → IsQuietWhere true policy most state × IsQuietWhere false policy most state → IsQuietFor policy most state
both_quiet policy most state both known fits begun world here agrees steps keeps =
    by_owed (situation_after policy known begun).owed refl
  where
    by_owed : (owed : Bool) → (situation_after policy known begun).owed ≡ owed → changes policy known begun steps ≤ most
    by_owed true e = both.0 known fits begun world e here agrees steps keeps
    by_owed false e = both.1 known fits begun world e here agrees steps keeps

-- Entries, by what the body of the state that is left may do.
module _ (policy : Policy) (most : ℕ) (state previous : StateId) where
  abbrev is_far : Facts → Bool
  is_far facts = goes_far policy facts (suc most) state

  entry_itself : previous.0 ≡ state.0 → IsQuietEntry policy most state previous
  entry_itself same known fits steps here facts are leads world agrees =
      absurd (never_itself previous (wish_of policy facts previous) (leads ∙ ap (λ s. Some s) (same_state state previous (sym same))))

  entry_never : IsNeverEntered policy previous → IsQuietEntry policy most state previous
  entry_never never known fits steps here facts are leads world agrees = absurd (never known fits steps here)

  kept_are : (facts : Facts) → AreFactsOf (scope_of policy) facts → AreFactsOf (scope_of policy) (kept_facts policy facts)
  kept_are facts are = record { links = are.links; tests = length_kept (behaviour_of policy).always facts.tests ∙ are.tests }

  -- An evaluation under the facts that are kept.
  always_kept : ActiveAreMentioned → (facts : Facts) → AreFactsOf (scope_of policy) facts → body_yield (kept_facts policy facts) policy.always.body ≡ body_yield facts policy.always.body
  always_kept active facts are = yield_same (kept_facts policy facts) facts refl policy.always.body (λ test m. kept_same active policy facts are test m)

  own_kept : ActiveAreMentioned → (part : Part) (facts : Facts) → AreFactsOf (scope_of policy) facts → shares policy.always.body part.body ≡ true → body_yield (kept_facts policy facts) part.body ≡ body_yield facts part.body
  own_kept active part facts are same = yield_same (kept_facts policy facts) facts refl part.body (λ test m. kept_same active policy facts are test (shares_mentions policy.always.body test part.body m same))

  leads_kept : ActiveAreMentioned → (part : Part) → slice_get policy.states previous.0 ≡ Some part → shares policy.always.body part.body ≡ true → (facts : Facts) → AreFactsOf (scope_of policy) facts
      → leads_to policy (kept_facts policy facts) previous ≡ leads_to policy facts previous
  leads_kept active part at same facts are =
      let kept = kept_facts policy facts in
      ap (λ x. change_of previous (later_wish x.wish (yield_in (λ p. body_yield kept p.body) (slice_get policy.states previous.0)).wish)) (always_kept active facts are)
      ∙ ap (λ o. change_of previous (later_wish (body_yield facts policy.always.body).wish (yield_in (λ p. body_yield kept p.body) o).wish)) at
      ∙ ap (λ x. change_of previous (later_wish (body_yield facts policy.always.body).wish x.wish)) (own_kept active part facts are same)
      ∙ ap (λ o. change_of previous (later_wish (body_yield facts policy.always.body).wish (yield_in (λ p. body_yield facts p.body) o).wish)) (sym at)

  first_so : (a b : Bool) → a ≡ true → (a && b) ≡ false → b ≡ false
  first_so true b e f = f
  first_so false b e f = absurd (false≢true e)

  -- The body shares its tests.
  entry_shared : ActiveAreMentioned → (part : Part) → slice_get policy.states previous.0 ≡ Some part → shares policy.always.body part.body ≡ true
      → ((facts : Facts) → AreFactsOf (scope_of policy) facts → (could_move policy.always.body policy.states facts previous state.0 && is_far facts) ≡ false) → IsQuietEntry policy most state previous
  entry_shared active part at same none known fits steps here facts are leads world agrees =
      let kept = kept_facts policy facts in
      first_so (could_move policy.always.body policy.states (facts_of world) previous state.0) (is_far (facts_of world))
      (leads_could policy world kept agrees previous state (leads_kept active part at same facts are ∙ leads)) (none (facts_of world) (world_facts policy world kept agrees (kept_are facts are)))

  -- Its body never wishes for the state, so the always body does.
  entry_unled : ActiveAreMentioned → IsNotLed policy state previous → ((facts : Facts) → AreFactsOf (scope_of policy) facts → (hits (To state) (reached facts policy.always.body).wish && is_far facts) ≡ false)
      → IsQuietEntry policy most state previous
  entry_unled active unled none known fits steps here facts are leads world agrees =
      let kept = kept_facts policy facts in
      first_so (hits (To state) (reached (facts_of world) policy.always.body).wish) (is_far (facts_of world))
      (always_hits policy world kept agrees state (ap (λ x. x.wish) (always_kept active facts are) ∙ by_always (slice_get policy.states previous.0) refl (leads_wish previous state (wish_of policy facts previous) leads)))
      (none (facts_of world) (world_facts policy world kept agrees (kept_are facts are)))
    where
      by_wish : (part : Part) (c : Bool) (own : Option StateId) → slice_get policy.states previous.0 ≡ Some part → is_held facts part.body ≡ c → (body_yield facts part.body).wish ≡ own
          → later_wish (body_yield facts policy.always.body).wish own ≡ Some state → (body_yield facts policy.always.body).wish ≡ Some state
      by_wish part c None at held is wish = wish
      by_wish part true (Some other) at held is wish = absurd (none-some other (sym (ap (λ b. (if b then nothing_yet else reached facts part.body).wish) held) ∙ is))
      by_wish part false (Some other) at held is wish =
          absurd
          (true≢false
          (sym
          (ap (part_hits facts state.0) at
          ∙ hits_itself policy world (kept_facts policy facts) agrees state (reached facts part.body).wish (ap (λ x. x.wish) (sym (yield_free facts part.body held)) ∙ is ∙ wish))
          ∙ unled known fits steps here (λ same. never_itself previous (wish_of policy facts previous) (leads ∙ ap (λ s. Some s) (same_state state previous (sym same)))) facts are))

      by_always : (o : Option Part) → slice_get policy.states previous.0 ≡ o → later_wish (body_yield facts policy.always.body).wish (yield_in (λ p. body_yield facts p.body) o).wish ≡ Some state
          → (body_yield facts policy.always.body).wish ≡ Some state
      by_always None at wish = wish
      by_always (Some part) at wish = by_wish part (is_held facts part.body) (body_yield facts part.body).wish at refl refl wish

  -- Nothing is known of its body.
  entry_free : GoesNever policy (suc most) state → IsQuietEntry policy most state previous
  entry_free never known fits steps here facts are leads world agrees =
      never (facts_of world) (world_facts policy world (kept_facts policy facts) agrees (kept_are facts are))

  would : (facts : Facts) → AreFactsOf (scope_of policy) facts → is_far facts ≡ true → WouldChange policy most
  would facts are far = record { state = state; facts = facts; are = are; could = far }

  pub entry_by_shared : ActiveAreMentioned → (part : Part) (extent : Extent) → slice_get policy.states previous.0 ≡ Some part → shares policy.always.body part.body ≡ true
      → IsExtentOf (scope_of policy) (λ facts. could_move policy.always.body policy.states facts previous state.0 && is_far facts) extent → IsEntryQuiet policy most state previous extent
  entry_by_shared active part Somewhere at same h = would h.0 h.1 (and_parts (could_move policy.always.body policy.states h.0 previous state.0) (is_far h.0) h.2).1
  entry_by_shared active part Nowhere at same h = entry_shared active part at same h
  entry_by_shared active part Undecided at same h = tt

  pub entry_by_always : ActiveAreMentioned → (extent : Extent) → IsNotLed policy state previous → IsExtentOf (scope_of policy) (λ facts. hits (To state) (reached facts policy.always.body).wish && is_far facts) extent
      → IsEntryQuiet policy most state previous extent
  entry_by_always active Somewhere unled h = would h.0 h.1 (and_parts (hits (To state) (reached h.0 policy.always.body).wish) (is_far h.0) h.2).1
  entry_by_always active Nowhere unled h = entry_unled active unled h
  entry_by_always active Undecided unled h = tt

  pub entry_by_any : (extent : Extent) → IsExtentOf (scope_of policy) is_far extent → IsEntryQuiet policy most state previous extent
  entry_by_any Somewhere h = would h.0 h.1 h.2
  entry_by_any Nowhere h = entry_free h
  entry_by_any Undecided h = tt

  pub entry_by_itself : previous.0 ≡ state.0 → IsEntryQuiet policy most state previous Nowhere
  entry_by_itself = entry_itself

  pub entry_by_never : IsNeverEntered policy previous → IsEntryQuiet policy most state previous Nowhere
  entry_by_never = entry_never

-- A state in which the always body is never held back.
pub never_held_untested : (policy : Policy) (state : StateId) → untested policy.always.body ≡ true → IsNeverHeld policy state
never_held_untested policy state bare known fits steps here = untested_free (situation_after policy known steps).facts policy.always.body bare

pub never_held_unled : ActiveAreMentioned → (policy : Policy) (state : StateId) → PolicyFits policy → (state.0 ≡ policy.initial.0 → ⊥) → ((previous : StateId) → previous.0 < length policy.states → IsNotLedHeld policy state previous) → IsNeverHeld policy state
never_held_unled active policy state policy_fits later unled known fits steps =
    by_last (λ done. (situation_after policy known done).current ≡ state → is_held (situation_after policy known done).facts policy.always.body ≡ false)
    (λ done step h.
    let before = situation_after policy known done in
    let facts = seen step before.facts in
    ⊎_elim (λ same. subst (λ s. s.current ≡ state → is_held s.facts policy.always.body ≡ false) (sym same) h)
    (λ come. subst (λ s. s.current ≡ state → is_held s.facts policy.always.body ≡ false) (sym come.1) (by_lead done step h come.0 (leads_to policy facts before.current) refl))
    (steps_evaluate policy known fits done step).situation)
    [] steps (λ here. absurd (later (ap (λ s. s.0) (sym here))))
  where
    by_always : (done : List Step) (step : Step) (next : StateId) → next ≡ state → AreFactsOf (scope_of policy) (seen step (situation_after policy known done).facts)
        → leads_to policy (seen step (situation_after policy known done).facts) (situation_after policy known done).current ≡ Some next → (c : Bool)
        → is_held (seen step (situation_after policy known done).facts) policy.always.body ≡ c → is_held (seen step (situation_after policy known done).facts) policy.always.body ≡ false
    by_always done step next here are leads false is = is
    by_always done step next here are leads true is =
        let s = situation_after policy known done in
        let facts = seen step s.facts in
        let o = slice_get policy.states s.current.0 in
        let there = states_stay policy policy_fits known fits done in
        let wish = leads_wish s.current next (wish_of policy facts s.current) leads in
        absurd
        (unled s.current (slice_get_within policy.states s.current.0 there.0 there.1) known fits done refl
        (λ same. never_itself s.current (wish_of policy facts s.current) (leads ∙ ap (λ x. Some x) (here ∙ same_state state s.current (sym same)))) facts are is
        (none_later (yield_in (λ part. body_yield facts part.body) o).wish
        (ap (λ c. later_wish (if c then nothing_yet else reached facts policy.always.body).wish (yield_in (λ part. body_yield facts part.body) o).wish) (sym is) ∙ wish)
        ∙ ap (λ x. Some x) here))
      where
        none_later : (after : Option StateId) → later_wish None after ≡ Some next → after ≡ Some next
        none_later None e = e
        none_later (Some other) e = e

    by_lead : (done : List Step) (step : Step) → ((situation_after policy known done).current ≡ state → is_held (situation_after policy known done).facts policy.always.body ≡ false)
        → AreFactsOf (scope_of policy) (seen step (situation_after policy known done).facts) → (o : Option StateId)
        → leads_to policy (seen step (situation_after policy known done).facts) (situation_after policy known done).current ≡ o
        → (entered_by policy (seen step (situation_after policy known done).facts) (situation_after policy known done).current o).current ≡ state
        → is_held (entered_by policy (seen step (situation_after policy known done).facts) (situation_after policy known done).current o).facts policy.always.body ≡ false
    by_lead done step h are None leads here = seen_free step (situation_after policy known done).facts policy.always.body (h here)
    by_lead done step h are (Some next) leads here =
        let facts = seen step (situation_after policy known done).facts in
        held_same (kept_facts policy facts) facts refl policy.always.body (λ test m. kept_same active policy facts are test m)
        ∙ by_always done step next here are leads (is_held facts policy.always.body) refl

-- Another state is not led here if it is never entered, or if its body aims there under no facts.
pub not_led_never : (policy : Policy) (state previous : StateId) → IsNeverEntered policy previous → IsNotLed policy state previous
not_led_never policy state previous never known fits steps here differ facts are = absurd (never known fits steps here)

pub not_led_itself : (policy : Policy) (state previous : StateId) → previous.0 ≡ state.0 → IsNotLed policy state previous
not_led_itself policy state previous same known fits steps here differ facts are = absurd (differ same)

pub not_led_by : (policy : Policy) (state previous : StateId) (part : Part) → slice_get policy.states previous.0 ≡ Some part
    → ((facts : Facts) → AreFactsOf (scope_of policy) facts → hits (To state) (reached facts part.body).wish ≡ false) → IsNotLed policy state previous
not_led_by policy state previous part at none known fits steps here differ facts are = ap (part_hits facts state.0) at ∙ none facts are

pub unled : (policy : Policy) (state previous : StateId) (led : Bool) → led ≡ false → OnFalse led (IsNotLed policy state previous) → IsNotLed policy state previous
unled policy state previous true e h = absurd (true≢false e)
unled policy state previous false e h = h

-- The same while the always body is held back: if its body aims there under no facts, or asks for each test of the always body.
own_hit : (facts : Facts) (next : StateId) (o : Option Part) → (yield_in (λ part. body_yield facts part.body) o).wish ≡ Some next → part_hits facts next.0 o ≡ true
own_hit facts next None wish = absurd (none-some next wish)
own_hit facts next (Some part) wish = by_held (is_held facts part.body) wish
  where
    hit : (w : Option StateId) → w ≡ Some next → hits (To next) w ≡ true
    hit w e = ap (hits (To next)) e ∙ eq-eqb next.0 next.0 refl

    by_held : (c : Bool) → (if c then nothing_yet else reached facts part.body).wish ≡ Some next → hits (To next) (reached facts part.body).wish ≡ true
    by_held true e = absurd (none-some next e)
    by_held false e = hit (reached facts part.body).wish e

pub unled_held : (policy : Policy) (state previous : StateId) (led : Bool) → OnFalse led (IsNotLed policy state previous) → OnFalse led (IsNotLedHeld policy state previous)
unled_held policy state previous true h = tt
unled_held policy state previous false h = λ known fits steps here differ facts are held wish.
    true≢false (sym (own_hit facts state (slice_get policy.states previous.0) wish) ∙ h known fits steps here differ facts are)

own_free : (facts : Facts) (body : Block) (next : StateId) (c : Bool) → is_held facts body ≡ c → (body_yield facts body).wish ≡ Some next → is_held facts body ≡ false
own_free facts body next true is wish = absurd (none-some next (sym (ap (λ c. (if c then nothing_yet else reached facts body).wish) is) ∙ wish))
own_free facts body next false is wish = is

pub covers_held : (policy : Policy) (state previous : StateId) → CoversTests policy previous → IsNotLedHeld policy state previous
covers_held policy state previous covers known fits steps here differ facts are held wish =
    let body = covers.part.body in
    true≢false
    (sym held
    ∙ shares_free facts body policy.always.body covers.covers (own_free facts body state (is_held facts body) refl (ap (λ o. (yield_in (λ part. body_yield facts part.body) o).wish) (sym covers.there) ∙ wish)))

pub covering_said : (policy : Policy) (state : StateId) (part : Part) (always : Block) (covers : Bool) → slice_get policy.states state.0 ≡ Some part → always ≡ policy.always.body → covers ≡ shares part.body always
    → OnTrue covers (CoversTests policy state)
covering_said policy state part always true at always_is is = record { part = part; there = at; covers = ap (shares part.body) (sym always_is) ∙ sym is }
covering_said policy state part always false at always_is is = tt

pub unled_now : (policy : Policy) (state previous : StateId) (led : Bool) → led ≡ false → OnFalse led (IsNotLedHeld policy state previous) → IsNotLedHeld policy state previous
unled_now policy state previous true e h = absurd (true≢false e)
unled_now policy state previous false e h = h

pub not_led_next : (policy : Policy) (state last : StateId) → ((previous : StateId) → previous.0 < last.0 → IsNotLedHeld policy state previous) → IsNotLedHeld policy state last
    → (previous : StateId) → previous.0 < last.0 + 1 → IsNotLedHeld policy state previous
not_led_next policy state last before here previous lt =
    ⊎_elim (λ e. subst (IsNotLedHeld policy state) (same_state last previous (sym e)) here) (λ differ. let d : previous.0 ≡ last.0 → ⊥ = differ in before previous (omega (arith, d, lt)))
    (cases_eq previous.0 last.0)

-- The answers for a state.
pub state_never : (policy : Policy) (most : ℕ) (state : StateId) → IsNeverEntered policy state → IsQuietFor policy most state
state_never policy most state never known fits begun world here = absurd (never known fits begun here)

pub state_first : (policy : Policy) (most : ℕ) (state : StateId) (extent : Extent) → PolicyFits policy → IsExtentOf (scope_of policy) (λ facts. goes_far policy facts (suc most) state) extent → IsStateQuietFor policy most state extent
state_first policy most state Somewhere policy_fits h = record { state = state; facts = h.0; are = h.1; could = h.2 }
state_first policy most state Nowhere policy_fits h = goes_quiet policy most state policy_fits h
state_first policy most state Undecided policy_fits h = tt

pub state_quiet : (policy : Policy) (most : ℕ) (state : StateId) (extent : Extent) → PolicyFits policy → extent ≡ Nowhere → IsExtentOf (scope_of policy) (λ facts. goes_far policy facts (suc most) state) extent → IsQuietFor policy most state
state_quiet policy most state extent policy_fits is h = goes_quiet policy most state policy_fits (subst (IsExtentOf (scope_of policy) (λ facts. goes_far policy facts (suc most) state)) is h)

leave_moves : (own held : Bool) (always : Block) (states : List Part) (facts : Facts) (state : StateId) (next : ℕ) → could_leave own held always states facts state next ≡ true → could_move always states facts state next ≡ true
leave_moves own held always states facts state next e =
    let it = not (eqb next state.0) in
    let one = part_hits facts next (slice_get states state.0) in
    let two = may_be_silent always facts (slice_get states state.0) && hits (To (record { 0 = next })) (reached facts always).wish in
    let both = and_parts it ((own && one) || (held && two)) e in
    and_from it (one || two) both.0 (weaker own held one two both.1)
  where
    weaker : (p q a b : Bool) → ((p && a) || (q && b)) ≡ true → (a || b) ≡ true
    weaker true q true b e = refl
    weaker true true false b e = e
    weaker true false false b e = absurd (false≢true e)
    weaker false true true b e = refl
    weaker false true false b e = e
    weaker false false a b e = absurd (false≢true e)

pub rest_said : (policy : Policy) (most : ℕ) (state : StateId) (own held : Bool) (extent : Extent) → PolicyFits policy → own ≡ may_wait_in held policy.always.body (slice_get policy.states state.0)
    → (held ≡ false → IsNeverHeld policy state) → IsExtentOf (scope_of policy) (λ facts. could_start own held policy.always.body policy.states (length policy.states) facts most state (length policy.states)) extent
    → IsQuietAtRest policy most state extent
rest_said policy most state own held Somewhere policy_fits own_is never h = record {
  state = state;
  facts = h.0;
  are = h.1;
  could =
      any_more (λ next. could_leave own held policy.always.body policy.states h.0 state next && goes_far policy h.0 most (record { 0 = next }))
      (λ next. could_move policy.always.body policy.states h.0 state next && goes_far policy h.0 most (record { 0 = next })) (length policy.states)
      (λ next e.
      let both = and_parts (could_leave own held policy.always.body policy.states h.0 state next) (goes_far policy h.0 most (record { 0 = next })) e in
      and_from (could_move policy.always.body policy.states h.0 state next) (goes_far policy h.0 most (record { 0 = next })) (leave_moves own held policy.always.body policy.states h.0 state next both.0) both.1)
      h.2;
}
rest_said policy most state own held Nowhere policy_fits own_is never h = rest_quiet policy most state held policy_fits never (subst (λ b. StartsNever policy b held most state) own_is h)
rest_said policy most state own held Undecided policy_fits own_is never h = tt

pub state_said : (policy : Policy) (most count : ℕ) (state : StateId) (entries rest extent : Extent) → PolicyFits policy → length policy.states ≤ count → (state.0 ≡ policy.initial.0 → ⊥) → AreEntriesQuiet policy most state count entries
    → IsQuietAtRest policy most state rest → extent ≡ either entries rest → IsStateQuietFor policy most state extent
state_said policy most count state entries rest extent policy_fits all later h k is =
    let B = WouldChange policy most in
    subst (IsStateQuietFor policy most state) (sym is)
    (answered_by (IsQuietWhere true policy most state × IsQuietWhere false policy most state) (IsQuietFor policy most state) B (either entries rest) (both_quiet policy most state)
    (answered_both (IsQuietWhere true policy most state) (IsQuietWhere false policy most state) B entries rest
    (answered_by ((previous : StateId) → previous.0 < count → IsQuietEntry policy most state previous) (IsQuietWhere true policy most state) B entries
    (λ quiet. owed_quiet policy most state policy_fits later (λ previous lt. quiet previous (omega (arith, lt, all)))) h)
    k))

-- What is known of a state's body and of the always body.
pub sharing_said : (policy : Policy) (state : StateId) (part : Part) (always : Block) (shared : Bool) → slice_get policy.states state.0 ≡ Some part → always ≡ policy.always.body → shared ≡ shares always part.body
    → OnTrue shared (SharesTests policy state)
sharing_said policy state part always true at always_is is = record { part = part; there = at; shared = ap (λ b. shares b part.body) (sym always_is) ∙ sym is }
sharing_said policy state part always false at always_is is = tt

pub held_known : (policy : Policy) (state : StateId) (held : Bool) → OnFalse held (IsNeverHeld policy state) → held ≡ false → IsNeverHeld policy state
held_known policy state true h e = absurd (true≢false e)
held_known policy state false h e = h

pub never_held_bare : (policy : Policy) (state : StateId) (always : Block) → always ≡ policy.always.body → untested always ≡ true → IsNeverHeld policy state
never_held_bare policy state always always_is bare = never_held_untested policy state (ap (untested) (sym always_is) ∙ bare)

pub held_unless_led : ActiveAreMentioned → (policy : Policy) (state : StateId) (count : ℕ) (led : Bool) → PolicyFits policy → count ≡ length policy.tables.states → (state.0 ≡ policy.initial.0 → ⊥) → OnFalse led (AreNotLed policy state count)
    → OnFalse led (IsNeverHeld policy state)
held_unless_led active policy state count true policy_fits count_is later h = tt
held_unless_led active policy state count false policy_fits count_is later h =
    never_held_unled active policy state policy_fits later (λ previous lt. let same = policy_fits.count in h previous (omega (arith, lt, count_is, same)))

pub not_led_asked : (policy : Policy) (state previous : StateId) (part : Part) (scope : Scope) (extent : Extent) → slice_get policy.states previous.0 ≡ Some part → scope ≡ scope_of policy → extent ≡ Nowhere
    → IsExtentOf scope (λ facts. hits (To state) (reached facts part.body).wish && true) extent → IsNotLed policy state previous
not_led_asked policy state previous part scope extent at scope_is is h =
    not_led_by policy state previous part at
    (λ facts are.
    first_false (hits (To state) (reached facts part.body).wish)
    (subst (λ s. IsExtentOf s (λ f. hits (To state) (reached f part.body).wish && true) Nowhere) scope_is (subst (IsExtentOf scope (λ f. hits (To state) (reached f part.body).wish && true)) is h) facts are))
  where
    first_false : (b : Bool) → (b && true) ≡ false → b ≡ false
    first_false true e = e
    first_false false e = refl

pub waits_said : (policy : Policy) (state : StateId) (held : Bool) (part : Part) (states : List Part) (always : Block) (waits : Bool) → states ≡ policy.states → slice_get states state.0 ≡ Some part → always ≡ policy.always.body
    → waits ≡ may_wait held always part.body → waits ≡ may_wait_in held policy.always.body (slice_get policy.states state.0)
waits_said policy state held part states always waits states_is at always_is is =
    is ∙ ap (λ b. may_wait held b part.body) always_is ∙ ap (may_wait_in held policy.always.body) (sym at) ∙ ap (λ xs. may_wait_in held policy.always.body (slice_get xs state.0)) states_is

pub waits_nowhere : (policy : Policy) (state : StateId) (held : Bool) (states : List Part) → states ≡ policy.states → slice_get states state.0 ≡ None → false ≡ may_wait_in held policy.always.body (slice_get policy.states state.0)
waits_nowhere policy state held states states_is at = sym (ap (λ xs. may_wait_in held policy.always.body (slice_get xs state.0)) (sym states_is) ∙ ap (may_wait_in held policy.always.body) at)
