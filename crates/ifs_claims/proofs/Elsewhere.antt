-- Where a policy rests, state by state.
use Rattle.std.proofs.Common.{◌≡◌, ℕ, ◌<◌, ◌≤◌, Bool, true, false, not, ◌&&◌, List, length, refl, sym, ap, ◌∙◌, subst, arith}
use Rattle.std.specs.Prelude.{slice_get, Contains, None, IsTrue, ◌↔◌}
use Rattle.std.proofs.lemmas.Bool.{false≢true, true≢false}
use Rattle.std.proofs.lemmas.Option.{slice_get_within}
use Rattle.ifs_base.specs.Facts.{Facts}
use Rattle.ifs_base.specs.declared.ids.StateId.{StateId}
use Rattle.ifs_gen.specs.Trees.{Policy}
use Rattle.ifs_policy.specs.Fits.{PolicyFits}
use Rattle.ifs_policy.specs.Meaning.{Block, is_held, IsHeld}
use Rattle.ifs_solver.specs.declared.constraints.Aim.TheVariants.{Off}
use Rattle.ifs_solver.specs.declared.searching.Extent.{Extent}
use Rattle.ifs_solver.specs.declared.searching.Extent.TheVariants.{Somewhere, Nowhere, Undecided}
use Rattle.ifs_solver.specs.Asking.{Guard, is_met, IsExtentAmong}
use Rattle.ifs_solver.specs.FactSets.{FactSet, Within, scope_of}
use Rattle.ifs_solver.specs.Situations.{Situation, situation_after, wish_of, leads_to, IsNeverEntered}
use Rattle.ifs_solver.proofs.Situated.{rests_stay}
use Rattle.ifs_claims.specs.Claims.{IsSettled, NeverSettles, RestsIn}
use Rattle.ifs_claims.specs.Told.{WouldSettle, WouldRestElsewhere, IsToldOfSettling, IsToldOfRests}
use Rattle.ifs_claims.specs.Asked.{AreFactsIn, ValuesAreAsked}
use Rattle.ifs_claims.specs.inner.AskedSets.{asked_fact_set}
use Rattle.ifs_claims.specs.inner.Stays.{AreBodiesIn, where_hit, where_resting, where_settled}
use Rattle.ifs_claims.specs.inner.Elsewhere.{IsSettling, HoldsIn, IsElsewhere, IsElsewhereBefore}
use Rattle.ifs_claims.proofs.Standing.{states_stay}
use Rattle.ifs_claims.proofs.Answering.{answered_by, told_of}
use Rattle.ifs_claims.proofs.Staying.{among_asked, kept, keeps, hit_in, not_and_false, not_and_first, not_and_second}

-- A state that is never entered, and one that is among some.
pub among_holds : (policy : Policy) (states : List StateId) (guard : Guard) (state : StateId) → Contains states state → HoldsIn policy states guard state
among_holds policy states guard state among known fits steps here settled true_there = subst (Contains states) (sym here) among

pub never_settled : (policy : Policy) (state : StateId) (guard : Guard) → IsNeverEntered policy state → NeverSettles policy state guard
never_settled policy state guard never known fits steps settled here = absurd (never known fits steps here)

-- A body that is not held back.
free_of : (b : Bool) (P : Type 0) → (b ≡ true → P) → ¬ P → b ≡ false
free_of true P f not_p = absurd (not_p (f refl))
free_of false P f not_p = refl

abbrev pub HeldExactly : Type 0
HeldExactly = (facts : Facts) (body : Block) → IsTrue (is_held facts body) ↔ IsHeld facts body

free_body : HeldExactly → (facts : Facts) (body : Block) → ¬ IsHeld facts body → is_held facts body ≡ false
free_body exactly facts body free = free_of (is_held facts body) (IsHeld facts body) (λ e. (exactly facts body).0 e) free

not_held : HeldExactly → (facts : Facts) (body : Block) → is_held facts body ≡ false → ¬ IsHeld facts body
not_held exactly facts body e held = true≢false (sym ((exactly facts body).1 held) ∙ e)

-- Of a conjunction of what is not so.
none_of : (g h r : Bool) → g ≡ false → h ≡ false → ((not g && not h) && r) ≡ false → r ≡ false
none_of true h r e f k = absurd (true≢false e)
none_of false true r e f k = absurd (true≢false f)
none_of false false r e f k = k

first_free : (g h r : Bool) → ((not g && not h) && r) ≡ true → g ≡ false
first_free true h r e = absurd (false≢true e)
first_free false h r e = refl

second_free : (g h r : Bool) → ((not g && not h) && r) ≡ true → h ≡ false
second_free true h r e = absurd (false≢true e)
second_free false true r e = absurd (false≢true e)
second_free false false r e = refl

rest_free : (g h r : Bool) → ((not g && not h) && r) ≡ true → r ≡ true
rest_free true h r e = absurd (false≢true e)
rest_free false true r e = absurd (false≢true e)
rest_free false false r e = e

module _ (exactly : HeldExactly) (policy : Policy) (guard : Guard) (state : StateId) (always own : Block) (are : AreBodiesIn policy state always own) where
  -- Facts under which the policy would settle there.
  would_settle : (facts : Facts) → AreFactsIn policy state facts → where_settled always own state guard facts ≡ true → WouldSettle policy state guard
  would_settle facts facts_are e =
      let g = is_held facts always in
      let h = is_held facts own in
      let hit = where_hit always own (Off state) facts in
      let resting = rest_free g h (where_resting always own state guard facts) e in
      record {
        part = are.part;
        there = are.there;
        rest = record {
          facts = facts;
          are = facts_are;
          stays = keeps state (wish_of policy facts state) (hit_in policy state always own are (Off state) facts ∙ not_and_first hit (is_met facts guard) resting);
          true_there = not_and_second hit (is_met facts guard) resting;
        };
        always = not_held exactly facts policy.always.body (ap (is_held facts) (sym are.always_is) ∙ first_free g h (where_resting always own state guard facts) e);
        own = not_held exactly facts are.part.body (ap (is_held facts) (sym are.own_is) ∙ second_free g h (where_resting always own state guard facts) e);
      }

  -- No facts are so, and the situation is settled there.
  no_rest : (s : Situation) → leads_to policy s.facts state ≡ None → s.current ≡ state → IsSettled policy s → where_settled always own state guard s.facts ≡ false
      → is_met s.facts guard ≡ false
  no_rest s stays here settled e =
      not_and_false (where_hit always own (Off state) s.facts) (is_met s.facts guard)
      (sym (hit_in policy state always own are (Off state) s.facts) ∙ kept state (wish_of policy s.facts state) stays)
      (none_of (is_held s.facts always) (is_held s.facts own) (where_resting always own state guard s.facts)
      (ap (is_held s.facts) are.always_is ∙ free_body exactly s.facts policy.always.body settled.always)
      (ap (is_held s.facts) are.own_is ∙ free_body exactly s.facts are.part.body (settled.own are.part (ap (λ x. slice_get policy.states x.0) here ∙ are.there))) e)

  pub settling_by : ValuesAreAsked → (extent : Extent) → IsExtentAmong (AreFactsIn policy state) (where_settled always own state guard) extent → IsSettling policy state guard extent
  settling_by asked Somewhere h = would_settle h.0 h.1 h.2
  settling_by asked Nowhere h = λ known fits steps settled here.
      let s = situation_after policy known steps in
      let stays = subst (λ x. leads_to policy s.facts x ≡ None) here (rests_stay policy known fits steps settled.owed) in
      no_rest s stays here settled (h s.facts (subst (λ x. AreFactsIn policy x s.facts) here (asked policy known fits steps)))
  settling_by asked Undecided h = tt

pub settling_said : HeldExactly → ValuesAreAsked → (policy : Policy) (guard : Guard) (state : StateId) (always own : Block) (set : FactSet) (extent : Extent) → AreBodiesIn policy state always own
    → set ≡ asked_fact_set (scope_of policy) always own → IsExtentAmong (Within set) (where_settled always own state guard) extent → IsSettling policy state guard extent
settling_said exactly asked policy guard state always own set extent are is h =
    settling_by exactly policy guard state always own are asked extent (among_asked policy state always own set (where_settled always own state guard) extent are is h)

pub settling_told : (policy : Policy) (guard : Guard) (state : StateId) (extent told : Extent) → IsSettling policy state guard extent → told ≡ extent → IsToldOfSettling policy state guard told
settling_told policy guard state extent told h is = told_of (NeverSettles policy state guard) (WouldSettle policy state guard) extent told is h

pub elsewhere_said : (policy : Policy) (states : List StateId) (guard : Guard) (state : StateId) (extent : Extent) → ¬ Contains states state → IsSettling policy state guard extent
    → IsElsewhere policy states guard state extent
elsewhere_said policy states guard state Somewhere elsewhere h = record { state = state; elsewhere = elsewhere; settles = h }
elsewhere_said policy states guard state Nowhere elsewhere h = λ known fits steps here settled true_there. absurd (true≢false (sym true_there ∙ h known fits steps settled here))
elsewhere_said policy states guard state Undecided elsewhere h = tt

-- No state.
pub none_before : (policy : Policy) (states : List StateId) (guard : Guard) → IsElsewhereBefore policy states guard 0 Nowhere
none_before policy states guard state lt = absurd (omega (arith, lt))

-- All states.
pub rests_told : (policy : Policy) (states : List StateId) (guard : Guard) (count : ℕ) (extent told : Extent) → PolicyFits policy → length policy.tables.states ≤ count
    → IsElsewhereBefore policy states guard count extent → told ≡ extent → IsToldOfRests policy states guard told
rests_told policy states guard count extent told policy_fits all h told_is =
    let B = WouldRestElsewhere policy states guard in
    told_of (RestsIn policy states guard) B extent told told_is
    (answered_by ((state : StateId) → state.0 < count → HoldsIn policy states guard state) (RestsIn policy states guard) B extent
    (λ each known fits steps.
    let s = situation_after policy known steps in
    let there = states_stay policy policy_fits known fits steps in
    let within = slice_get_within policy.states s.current.0 there.0 there.1 in
    let same = policy_fits.count in
    each s.current (omega (arith, all, within, same)) known fits steps refl)
    h)
