-- Evaluations that lead to no other state.
use Rattle.std.proofs.Common.{◌≡◌, Bool, true, false, not, ◌&&◌, ◌||◌, [], ◌∷◌, Option, Some, None, eqb, refl, sym, ap, ◌∙◌, subst}
use Rattle.std.specs.Prelude.{is_some, if◌then◌else◌}
use Rattle.std.specs.Borrow.{Bor}
use Rattle.std.proofs.lemmas.Bool.{false≢true, true≢false}
use Rattle.ifs_base.specs.Facts.{Facts}
use Rattle.ifs_base.specs.Effects.{Effects, nothing_yet, later_wish}
use Rattle.ifs_base.specs.declared.ids.StateId.{StateId}
use Rattle.ifs_core.specs.Event.{change_of}
use Rattle.ifs_gen.specs.Trees.{Policy}
use Rattle.ifs_gen.specs.Events.{yield_in}
use Rattle.ifs_policy.specs.Meaning.{Block, body_yield, is_held, reached}
use Rattle.ifs_solver.specs.declared.constraints.Guard.{Guard as GuardOfCode}
use Rattle.ifs_solver.specs.declared.constraints.Aim.{Aim}
use Rattle.ifs_solver.specs.declared.constraints.Aim.TheVariants.{To, Off}
use Rattle.ifs_solver.specs.declared.constraints.Constraint.TheVariants.{Met, Free, Silent, Aims}
use Rattle.ifs_solver.specs.declared.fact_sets.Scope.{Scope}
use Rattle.ifs_solver.specs.declared.searching.Extent.{Extent}
use Rattle.ifs_solver.specs.declared.searching.Extent.TheVariants.{Somewhere, Nowhere, Undecided}
use Rattle.ifs_solver.specs.Asking.{Guard, guard_of, is_met, hits, meets_all, IsExtentAmong, IsExtentOf, either, IsAnswered}
use Rattle.ifs_solver.specs.FactSets.{FactSet, Within, scope_of}
use Rattle.ifs_solver.specs.Situations.{situation_after, wish_of, leads_to, IsNeverEntered}
use Rattle.ifs_solver.proofs.Adding.{extent_agrees}
use Rattle.ifs_solver.proofs.Witnesses.{among_agrees, among_same}
use Rattle.ifs_solver.proofs.Situated.{rests_stay}
use Rattle.ifs_claims.specs.Claims.{NeverRests}
use Rattle.ifs_claims.specs.Told.{IsToldOfRest, WouldRest}
use Rattle.ifs_claims.specs.inner.Stays.{AreBodiesIn, where_hit, where_moving, where_resting, where_settled}
use Rattle.ifs_claims.specs.Asked.{AreFactsIn, ValuesAreAsked}
use Rattle.ifs_claims.specs.inner.AskedSets.{asked_fact_set}
use Rattle.ifs_claims.specs.inner.Widening.{Widens, WidensAmong}
use Rattle.ifs_claims.proofs.AskedFor.{asked_within, within_asked}
use Rattle.ifs_claims.proofs.Answering.{told_of}

or_true : (b : Bool) → (b || true) ≡ true
or_true true = refl
or_true false = refl

-- Two answers together.
pub widened : (scope : Scope) (other : Facts → Bool) (before more : Extent) → IsExtentOf scope other more → Widens scope other before (either before more)
widened scope other Somewhere more h test k = (k.0, k.1, ap (λ b. b || other k.0) k.2)
widened scope other Nowhere Somewhere h test k = (h.0, h.1, ap (λ b. test h.0 || b) h.2 ∙ or_true (test h.0))
widened scope other Nowhere Nowhere h test k = λ facts are. ap (λ b. b || other facts) (k facts are) ∙ h facts are
widened scope other Nowhere Undecided h test k = tt
widened scope other Undecided Somewhere h test k = (h.0, h.1, ap (λ b. test h.0 || b) h.2 ∙ or_true (test h.0))
widened scope other Undecided Nowhere h test k = tt
widened scope other Undecided Undecided h test k = tt

pub widened_among : (P : Facts → Type 0) (other : Facts → Bool) (before more : Extent) → IsExtentAmong P other more → WidensAmong P other before (either before more)
widened_among P other Somewhere more h test k = (k.0, k.1, ap (λ b. b || other k.0) k.2)
widened_among P other Nowhere Somewhere h test k = (h.0, h.1, ap (λ b. test h.0 || b) h.2 ∙ or_true (test h.0))
widened_among P other Nowhere Nowhere h test k = λ facts are. ap (λ b. b || other facts) (k facts are) ∙ h facts are
widened_among P other Nowhere Undecided h test k = tt
widened_among P other Undecided Somewhere h test k = (h.0, h.1, ap (λ b. test h.0 || b) h.2 ∙ or_true (test h.0))
widened_among P other Undecided Nowhere h test k = tt
widened_among P other Undecided Undecided h test k = tt

-- The wish of a body that is held back or not.
abbrev wish_if : Bool → Option StateId → Option StateId
wish_if held wish = if held then None else wish

held_wish : (held : Bool) (effects : Effects) → (if held then nothing_yet else effects).wish ≡ wish_if held effects.wish
held_wish true effects = refl
held_wish false effects = refl

-- The three ways to stay.
abbrev stays : StateId → Bool → Option StateId → Bool → Option StateId → Bool → Bool
stays state g v h w t = not (hits (Off state) (later_wish (wish_if g v) (wish_if h w))) && t

abbrev ways : StateId → Bool → Option StateId → Bool → Option StateId → Bool → Bool
ways state g v h w t =
    ((not h && (hits (To state) w && (t && true))) || (not (is_some (wish_if h w)) && (not g && (hits (To state) v && (t && true)))))
    || (not (is_some (wish_if h w)) && (not (is_some (wish_if g v)) && (t && true)))

stays_by : (b t : Bool) → (not (not b) && t) ≡ ((b && (t && true)) || false)
stays_by true true = refl
stays_by true false = refl
stays_by false t = refl

stays_at : (b t : Bool) → (not (not b) && t) ≡ (((b && (t && true)) || false) || false)
stays_at true true = refl
stays_at true false = refl
stays_at false t = refl

none_at : (t : Bool) → t ≡ (t && true)
none_at true = refl
none_at false = refl

stays_ways : (state : StateId) (g : Bool) (v : Option StateId) (h : Bool) (w : Option StateId) (t : Bool) → stays state g v h w t ≡ ways state g v h w t
stays_ways state true v true w true = refl
stays_ways state true v true w false = refl
stays_ways state false None true w true = refl
stays_ways state false None true w false = refl
stays_ways state false (Some x) true w t = stays_by (eqb x.0 state.0) t
stays_ways state true v false None true = refl
stays_ways state true v false None false = refl
stays_ways state false None false None true = refl
stays_ways state false None false None false = refl
stays_ways state false (Some x) false None t = stays_by (eqb x.0 state.0) t
stays_ways state g v false (Some x) t = stays_at (eqb x.0 state.0) t

-- Bodies that stay while a guard is met meet one of three lists of constraints.
resting_met : (always own : Bor Block) (state : StateId) (guard : GuardOfCode) (facts : Facts)
    → where_resting always.now own.now state (guard_of guard) facts
    ≡ ((meets_all (Free own ∷ Aims own (To state) ∷ Met guard ∷ []) facts || meets_all (Silent own ∷ Free always ∷ Aims always (To state) ∷ Met guard ∷ []) facts)
    || meets_all (Silent own ∷ Silent always ∷ Met guard ∷ []) facts)
resting_met always own state guard facts =
    let g = is_held facts always.now in
    let v = reached facts always.now in
    let h = is_held facts own.now in
    let w = reached facts own.now in
    let t = is_met facts (guard_of guard) in
    ap (λ x. not (hits (Off state) (later_wish x (if h then nothing_yet else w).wish)) && t) (held_wish g v)
    ∙ ap (λ x. not (hits (Off state) (later_wish (wish_if g v.wish) x)) && t) (held_wish h w)
    ∙ stays_ways state g v.wish h w.wish t
    ∙ ap (λ x. ((not h && (hits (To state) w.wish && (t && true))) || (not (is_some x) && (not g && (hits (To state) v.wish && (t && true))))) || (not (is_some x) && (not (is_some (wish_if g v.wish)) && (t && true)))) (sym (held_wish h w))
    ∙ ap (λ x. ((not h && (hits (To state) w.wish && (t && true))) || (not (is_some (if h then nothing_yet else w).wish) && (not g && (hits (To state) v.wish && (t && true))))) || (not (is_some (if h then nothing_yet else w).wish) && (not (is_some x) && (t && true)))) (sym (held_wish g v))

pub resting_asked : (P : Facts → Type 0) (always own : Bor Block) (state : StateId) (guard : GuardOfCode) (by_own by_either by_all : Extent)
    → IsExtentAmong P (meets_all (Free own ∷ Aims own (To state) ∷ Met guard ∷ [])) by_own
    → WidensAmong P (meets_all (Silent own ∷ Free always ∷ Aims always (To state) ∷ Met guard ∷ [])) by_own by_either
    → WidensAmong P (meets_all (Silent own ∷ Silent always ∷ Met guard ∷ [])) by_either by_all
    → IsExtentAmong P (where_resting always.now own.now state (guard_of guard)) by_all
resting_asked P always own state guard by_own by_either by_all h k l =
    among_agrees P (where_resting always.now own.now state (guard_of guard)) _ (resting_met always own state guard) by_all (l _ (k _ h))

-- The same ways while no body is held back.
abbrev settled : StateId → Bool → Option StateId → Bool → Option StateId → Bool → Bool
settled state g v h w t =
    ((not h && (not g && (hits (To state) w && (t && true)))) || (not h && (not g && (not (is_some (wish_if h w)) && (hits (To state) v && (t && true))))))
    || (not h && (not g && (not (is_some (wish_if h w)) && (not (is_some (wish_if g v)) && (t && true)))))

settled_ways : (state : StateId) (g : Bool) (v : Option StateId) (h : Bool) (w : Option StateId) (t : Bool) → ((not g && not h) && stays state g v h w t) ≡ settled state g v h w t
settled_ways state true v true w t = refl
settled_ways state true v false w t = refl
settled_ways state false v true w t = refl
settled_ways state false v false w t = stays_ways state false v false w t

settled_met : (always own : Bor Block) (state : StateId) (guard : GuardOfCode) (facts : Facts)
    → where_settled always.now own.now state (guard_of guard) facts
    ≡ ((meets_all (Free own ∷ Free always ∷ Aims own (To state) ∷ Met guard ∷ []) facts || meets_all (Free own ∷ Free always ∷ Silent own ∷ Aims always (To state) ∷ Met guard ∷ []) facts)
    || meets_all (Free own ∷ Free always ∷ Silent own ∷ Silent always ∷ Met guard ∷ []) facts)
settled_met always own state guard facts =
    let g = is_held facts always.now in
    let v = reached facts always.now in
    let h = is_held facts own.now in
    let w = reached facts own.now in
    let t = is_met facts (guard_of guard) in
    ap (λ x. (not g && not h) && (not (hits (Off state) (later_wish x (if h then nothing_yet else w).wish)) && t)) (held_wish g v)
    ∙ ap (λ x. (not g && not h) && (not (hits (Off state) (later_wish (wish_if g v.wish) x)) && t)) (held_wish h w)
    ∙ settled_ways state g v.wish h w.wish t
    ∙ ap (λ x. ((not h && (not g && (hits (To state) w.wish && (t && true)))) || (not h && (not g && (not (is_some x) && (hits (To state) v.wish && (t && true))))))
    || (not h && (not g && (not (is_some x) && (not (is_some (wish_if g v.wish)) && (t && true)))))) (sym (held_wish h w))
    ∙ ap (λ x. ((not h && (not g && (hits (To state) w.wish && (t && true)))) || (not h && (not g && (not (is_some (if h then nothing_yet else w).wish) && (hits (To state) v.wish && (t && true))))))
    || (not h && (not g && (not (is_some (if h then nothing_yet else w).wish) && (not (is_some x) && (t && true)))))) (sym (held_wish g v))

pub settled_asked : (P : Facts → Type 0) (always own : Bor Block) (state : StateId) (guard : GuardOfCode) (by_own by_either by_all : Extent)
    → IsExtentAmong P (meets_all (Free own ∷ Free always ∷ Aims own (To state) ∷ Met guard ∷ [])) by_own
    → WidensAmong P (meets_all (Free own ∷ Free always ∷ Silent own ∷ Aims always (To state) ∷ Met guard ∷ [])) by_own by_either
    → WidensAmong P (meets_all (Free own ∷ Free always ∷ Silent own ∷ Silent always ∷ Met guard ∷ [])) by_either by_all
    → IsExtentAmong P (where_settled always.now own.now state (guard_of guard)) by_all
settled_asked P always own state guard by_own by_either by_all h k l =
    among_agrees P (where_settled always.now own.now state (guard_of guard)) _ (settled_met always own state guard) by_all (l _ (k _ h))

-- A state is left or kept.
pub kept : (state : StateId) (wish : Option StateId) → change_of state wish ≡ None → hits (Off state) wish ≡ false
kept state None e = refl
kept state (Some next) e = by_test (eqb next.0 state.0) e
  where
    by_test : (c : Bool) → (if c then None else Some next) ≡ None → not c ≡ false
    by_test true h = refl
    by_test false h = absurd (cc)

pub keeps : (state : StateId) (wish : Option StateId) → hits (Off state) wish ≡ false → change_of state wish ≡ None
keeps state None e = refl
keeps state (Some next) e = by_test (eqb next.0 state.0) e
  where
    by_test : (c : Bool) → not c ≡ false → (if c then None else Some next) ≡ None
    by_test true h = refl
    by_test false h = absurd (true≢false h)

-- What is asked of the bodies of a policy is asked of an evaluation in the state.
pub hit_in : (policy : Policy) (state : StateId) (always own : Block) → AreBodiesIn policy state always own → (aim : Aim) (facts : Facts) → hits aim (wish_of policy facts state) ≡ where_hit always own aim facts
hit_in policy state always own are aim facts =
    ap (λ o. hits aim (later_wish (body_yield facts policy.always.body).wish (yield_in (λ part. body_yield facts part.body) o).wish)) are.there
    ∙ ap (λ body. hits aim (later_wish (body_yield facts body).wish (body_yield facts are.part.body).wish)) (sym are.always_is)
    ∙ ap (λ body. hits aim (later_wish (body_yield facts always).wish (body_yield facts body).wish)) (sym are.own_is)

pub not_and_false : (a t : Bool) → a ≡ false → (not a && t) ≡ false → t ≡ false
not_and_false true t e f = absurd (true≢false e)
not_and_false false t e f = f

pub not_and_first : (a t : Bool) → (not a && t) ≡ true → a ≡ false
not_and_first true t e = absurd (false≢true e)
not_and_first false t e = refl

pub not_and_second : (a t : Bool) → (not a && t) ≡ true → t ≡ true
not_and_second true t e = absurd (false≢true e)
not_and_second false t e = e

rest_by : ValuesAreAsked → (policy : Policy) (state : StateId) (guard : Guard) (always own : Block) (extent : Extent) → AreBodiesIn policy state always own
    → IsExtentAmong (AreFactsIn policy state) (where_resting always own state guard) extent → IsAnswered (NeverRests policy state guard) (WouldRest policy state guard) extent
rest_by asked policy state guard always own Somewhere are h =
    let hit = where_hit always own (Off state) h.0 in
    record {
      facts = h.0;
      are = h.1;
      stays = keeps state (wish_of policy h.0 state) (hit_in policy state always own are (Off state) h.0 ∙ not_and_first hit (is_met h.0 guard) h.2);
      true_there = not_and_second hit (is_met h.0 guard) h.2;
    }
rest_by asked policy state guard always own Nowhere are h = λ known fits steps owed here.
    let facts = (situation_after policy known steps).facts in
    let rests = rests_stay policy known fits steps owed in
    not_and_false (where_hit always own (Off state) facts) (is_met facts guard)
    (sym (hit_in policy state always own are (Off state) facts) ∙ kept state (wish_of policy facts state) (subst (λ s. leads_to policy facts s ≡ None) here rests))
    (h facts (subst (λ s. AreFactsIn policy s facts) here (asked policy known fits steps)))
rest_by asked policy state guard always own Undecided are h = tt

pub among_asked : (policy : Policy) (state : StateId) (always own : Block) (set : FactSet) (test : Facts → Bool) (extent : Extent) → AreBodiesIn policy state always own → set ≡ asked_fact_set (scope_of policy) always own
    → IsExtentAmong (Within set) test extent → IsExtentAmong (AreFactsIn policy state) test extent
among_asked policy state always own set test extent are is h =
    among_same (Within set) (AreFactsIn policy state) test (asked_within policy state always own are set is) (within_asked policy state always own are set is) extent h

pub rest_answered : ValuesAreAsked → (policy : Policy) (state : StateId) (guard : Guard) (always own : Block) (set : FactSet) (extent : Extent) → AreBodiesIn policy state always own
    → set ≡ asked_fact_set (scope_of policy) always own → IsExtentAmong (Within set) (where_resting always own state guard) extent → IsAnswered (NeverRests policy state guard) (WouldRest policy state guard) extent
rest_answered asked policy state guard always own set extent are is h =
    rest_by asked policy state guard always own extent are (among_asked policy state always own set (where_resting always own state guard) extent are is h)

pub rest_told : ValuesAreAsked → (policy : Policy) (state : StateId) (guard : Guard) (always own : Block) (set : FactSet) (extent told : Extent) → AreBodiesIn policy state always own
    → set ≡ asked_fact_set (scope_of policy) always own → IsExtentAmong (Within set) (where_resting always own state guard) extent → told ≡ extent → IsToldOfRest policy state guard told
rest_told asked policy state guard always own set extent told are is h told_is =
    told_of (NeverRests policy state guard) (WouldRest policy state guard) extent told told_is (rest_answered asked policy state guard always own set extent are is h)

pub rest_never : (policy : Policy) (state : StateId) (guard : Guard) → IsNeverEntered policy state → NeverRests policy state guard
rest_never policy state guard never known fits steps owed here = absurd (never known fits steps here)

-- Bodies that wish for a state meet one of two lists of constraints.
and_true : (b : Bool) → b ≡ (b && true)
and_true true = refl
and_true false = refl

and_true_or : (b : Bool) → b ≡ ((b && true) || false)
and_true_or true = refl
and_true_or false = refl

hit_ways : (aim : Aim) (g : Bool) (v : Option StateId) (h : Bool) (w : Option StateId)
    → hits aim (later_wish (wish_if g v) (wish_if h w)) ≡ ((not h && (hits aim w && true)) || (not (is_some (wish_if h w)) && (not g && (hits aim v && true))))
hit_ways aim true v true w = refl
hit_ways aim false v true w = and_true (hits aim v)
hit_ways aim true v false None = refl
hit_ways aim false v false None = and_true (hits aim v)
hit_ways aim g v false (Some x) = and_true_or (hits aim (Some x))

pub hit_met : (always own : Bor Block) (aim : Aim) (facts : Facts)
    → where_hit always.now own.now aim facts ≡ (meets_all (Free own ∷ Aims own aim ∷ []) facts || meets_all (Silent own ∷ Free always ∷ Aims always aim ∷ []) facts)
hit_met always own aim facts =
    let g = is_held facts always.now in
    let v = reached facts always.now in
    let h = is_held facts own.now in
    let w = reached facts own.now in
    ap (λ x. hits aim (later_wish x (if h then nothing_yet else w).wish)) (held_wish g v)
    ∙ ap (λ x. hits aim (later_wish (wish_if g v.wish) x)) (held_wish h w)
    ∙ hit_ways aim g v.wish h w.wish
    ∙ ap (λ x. (not h && (hits aim w.wish && true)) || (not (is_some x) && (not g && (hits aim v.wish && true)))) (sym (held_wish h w))

pub hit_asked : (scope : Scope) (always own : Bor Block) (aim : Aim) (by_own by_either : Extent) → IsExtentOf scope (meets_all (Free own ∷ Aims own aim ∷ [])) by_own
    → Widens scope (meets_all (Silent own ∷ Free always ∷ Aims always aim ∷ [])) by_own by_either → IsExtentOf scope (where_hit always.now own.now aim) by_either
hit_asked scope always own aim by_own by_either h k = extent_agrees scope (where_hit always.now own.now aim) _ (hit_met always own aim) by_either (k _ h)

-- The same while a guard is met.
and_more : (b t : Bool) → (b && t) ≡ (b && (t && true))
and_more true true = refl
and_more true false = refl
and_more false t = refl

and_more_or : (b t : Bool) → (b && t) ≡ ((b && (t && true)) || false)
and_more_or true true = refl
and_more_or true false = refl
and_more_or false t = refl

moving_ways : (aim : Aim) (g : Bool) (v : Option StateId) (h : Bool) (w : Option StateId) (t : Bool)
    → (hits aim (later_wish (wish_if g v) (wish_if h w)) && t) ≡ ((not h && (hits aim w && (t && true))) || (not (is_some (wish_if h w)) && (not g && (hits aim v && (t && true)))))
moving_ways aim true v true w t = refl
moving_ways aim false v true w t = and_more (hits aim v) t
moving_ways aim true v false None t = refl
moving_ways aim false v false None t = and_more (hits aim v) t
moving_ways aim g v false (Some x) t = and_more_or (hits aim (Some x)) t

pub moving_met : (always own : Bor Block) (next : StateId) (guard : GuardOfCode) (facts : Facts)
    → where_moving always.now own.now next (guard_of guard) facts
    ≡ (meets_all (Free own ∷ Aims own (To next) ∷ Met guard ∷ []) facts || meets_all (Silent own ∷ Free always ∷ Aims always (To next) ∷ Met guard ∷ []) facts)
moving_met always own next guard facts =
    let g = is_held facts always.now in
    let v = reached facts always.now in
    let h = is_held facts own.now in
    let w = reached facts own.now in
    let t = is_met facts (guard_of guard) in
    ap (λ x. hits (To next) (later_wish x (if h then nothing_yet else w).wish) && t) (held_wish g v)
    ∙ ap (λ x. hits (To next) (later_wish (wish_if g v.wish) x) && t) (held_wish h w)
    ∙ moving_ways (To next) g v.wish h w.wish t
    ∙ ap (λ x. (not h && (hits (To next) w.wish && (t && true))) || (not (is_some x) && (not g && (hits (To next) v.wish && (t && true))))) (sym (held_wish h w))

pub moving_asked : (P : Facts → Type 0) (always own : Bor Block) (next : StateId) (guard : GuardOfCode) (by_own by_either : Extent)
    → IsExtentAmong P (meets_all (Free own ∷ Aims own (To next) ∷ Met guard ∷ [])) by_own
    → WidensAmong P (meets_all (Silent own ∷ Free always ∷ Aims always (To next) ∷ Met guard ∷ [])) by_own by_either → IsExtentAmong P (where_moving always.now own.now next (guard_of guard)) by_either
moving_asked P always own next guard by_own by_either h k =
    among_agrees P (where_moving always.now own.now next (guard_of guard)) _ (moving_met always own next guard) by_either (k _ h)
