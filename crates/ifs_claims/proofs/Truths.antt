-- Guards at any moment.
use Rattle.std.proofs.Common.{◌≡◌, ⊎_elim, Bool, true, false, ◌&&◌, [], ◌∷◌, Some, refl, sym, ap, ◌∙◌, subst}
use Rattle.ifs_base.specs.Facts.{Facts}
use Rattle.ifs_base.specs.declared.ids.StateId.{StateId}
use Rattle.ifs_gen.specs.Events.{ActiveAreMentioned}
use Rattle.ifs_gen.specs.Trees.{Policy}
use Rattle.ifs_policy.specs.Fits.{PolicyFits}
use Rattle.ifs_policy.specs.Meaning.{Block, Condition}
use Rattle.ifs_solver.specs.declared.constraints.Guard.{Guard as GuardOfCode}
use Rattle.ifs_solver.specs.declared.constraints.Constraint.TheVariants.{Met}
use Rattle.ifs_solver.specs.declared.searching.Extent.{Extent}
use Rattle.ifs_solver.specs.declared.searching.Extent.TheVariants.{Somewhere, Nowhere, Undecided}
use Rattle.ifs_solver.specs.Asking.{Guard, WhileUnknown, guard_of, is_met, meets_all, IsExtentAmong, either, IsAnswered}
use Rattle.ifs_solver.specs.FactSets.{FactSet, Within, scope_of}
use Rattle.ifs_solver.specs.Situations.{Situation, situation_after, IsNeverEntered}
use Rattle.ifs_solver.proofs.Witnesses.{among_agrees}
use Rattle.ifs_claims.specs.inner.AskedSets.{asked_fact_set}
use Rattle.ifs_claims.specs.Claims.{NeverIn, NeverRests}
use Rattle.ifs_claims.specs.Told.{IsToldOfMoments, WouldBe, by_opening, by_rest, by_move, WouldRest}
use Rattle.ifs_claims.specs.inner.Stays.{AreBodiesIn, where_resting}
use Rattle.ifs_claims.specs.inner.Entering.{IsEntering}
use Rattle.ifs_claims.specs.inner.Kept.{kept_guard}
use Rattle.ifs_claims.specs.inner.Moment.{IsFalseAtOpenings, IsFalseOnArrival, IsFalseStaying, IsAtOpenings, IsArriving, IsStaying}
use Rattle.ifs_claims.specs.inner.Opening.{opening_fact_set}
use Rattle.ifs_claims.proofs.AskedFor.{owed_are_asked, values_are_asked}
use Rattle.ifs_claims.proofs.KeptValues.{met_kept}
use Rattle.ifs_claims.proofs.Unknown.{stays_known}
use Rattle.ifs_claims.proofs.Staying.{rest_answered}
use Rattle.ifs_claims.proofs.Valueless.{opening_facts, opening_within}
use Rattle.ifs_claims.proofs.Answering.{answered_by, answered_both, told_of}

pub moment_never : (policy : Policy) (state : StateId) (guard : Guard) → IsNeverEntered policy state → NeverIn policy state guard
moment_never policy state guard never known fits steps here = absurd (never known fits steps here)

pub moment_told : (policy : Policy) (state : StateId) (guard : Guard) (extent told : Extent) → IsToldOfMoments policy state guard extent → told ≡ extent → IsToldOfMoments policy state guard told
moment_told policy state guard extent told h is = told_of (NeverIn policy state guard) (WouldBe policy state guard) extent told is h

-- The question of the guard alone.
and_true : (b : Bool) → b ≡ (b && true)
and_true true = refl
and_true false = refl

pub met_asked : (P : Facts → Type 0) (guard : GuardOfCode) (extent : Extent) → IsExtentAmong P (meets_all (Met guard ∷ [])) extent → IsExtentAmong P (λ facts. is_met facts (guard_of guard)) extent
met_asked P guard extent h = among_agrees P (λ facts. is_met facts (guard_of guard)) (meets_all (Met guard ∷ [])) (λ facts. and_true (is_met facts (guard_of guard))) extent h

-- At an opening.
pub elsewhere_at_openings : (policy : Policy) (state initial : StateId) (guard : Guard) → initial ≡ policy.initial → (state.0 ≡ initial.0 → ⊥) → IsFalseAtOpenings policy state guard
elsewhere_at_openings policy state initial guard is differ known fits here = absurd (differ (ap (λ x. x.0) (sym here ∙ sym is)))

pub at_openings_said : (policy : Policy) (state initial : StateId) (guard : Guard) (set : FactSet) (extent : Extent) → initial ≡ policy.initial → state.0 ≡ initial.0 → set ≡ opening_fact_set (scope_of policy)
    → IsExtentAmong (Within set) (λ facts. is_met facts guard) extent → IsAtOpenings policy state guard extent
at_openings_said policy state initial guard set Somewhere is same set_is h =
    by_opening h.0 (same ∙ ap (λ x. x.0) is) (opening_facts policy h.0 (subst (λ x. Within x h.0) set_is h.1)) h.2
at_openings_said policy state initial guard set Nowhere is same set_is h = λ known fits here.
    let facts = (situation_after policy known []).facts in
    h facts (subst (λ x. Within x facts) (sym set_is) (opening_within policy known fits))
at_openings_said policy state initial guard set Undecided is same set_is h = tt

-- Where an evaluation has just led.
pub arriving_said : ActiveAreMentioned → (policy : Policy) (state : StateId) (guard before : Guard) (extent : Extent) → PolicyFits policy → before ≡ kept_guard policy.always.body guard → IsEntering policy state before extent
    → IsArriving policy state guard extent
arriving_said active policy state guard before Somewhere policy_fits is h =
    by_move (record { state = h.state; facts = h.facts; are = h.are; leads = h.leads; true_then = sym (met_kept active policy policy_fits h.facts h.are.are guard) ∙ ap (is_met h.facts) (sym is) ∙ h.true_there })
arriving_said active policy state guard before Nowhere policy_fits is h = λ known fits steps facts are leads.
    sym (met_kept active policy policy_fits facts are.are guard) ∙ ap (is_met facts) (sym is) ∙ h known fits steps facts are leads
arriving_said active policy state guard before Undecided policy_fits is h = tt

-- Where an evaluation stays in a state.
resting_breaks : (policy : Policy) (state : StateId) (guard : Guard) (extent : Extent) → IsAnswered (NeverRests policy state guard) (WouldRest policy state guard) extent → IsStaying policy state guard extent
resting_breaks policy state guard Somewhere h = by_rest h
resting_breaks policy state guard Nowhere h = λ opening arrival. h
resting_breaks policy state guard Undecided h = tt

pub staying_said : ActiveAreMentioned → (policy : Policy) (state : StateId) (guard : Guard) (always own : Block) (set : FactSet) (extent : Extent) → AreBodiesIn policy state always own
    → set ≡ asked_fact_set (scope_of policy) always own → IsExtentAmong (Within set) (where_resting always own state guard) extent → IsStaying policy state guard extent
staying_said active policy state guard always own set extent are set_is h =
    resting_breaks policy state guard extent (rest_answered (values_are_asked active) policy state guard always own set extent are set_is h)

pub unknown_staying : ActiveAreMentioned → (policy : Policy) (state : StateId) (guard : Guard) (condition : Condition) → guard ≡ WhileUnknown condition → IsStaying policy state guard Nowhere
unknown_staying active policy state guard condition is =
    subst (IsFalseStaying policy state) (sym is)
    (λ opening arrival known fits steps owed. stays_known active policy state condition opening arrival known fits steps)

-- At an opening, at rest, and where an evaluation has just led.
never_by : ActiveAreMentioned → (policy : Policy) (state : StateId) (guard : Guard) → (IsFalseAtOpenings policy state guard × IsFalseStaying policy state guard) × IsFalseOnArrival policy state guard → NeverIn policy state guard
never_by active policy state guard all known fits steps here =
    by_owed s.owed refl
  where
    s : Situation
    s = situation_after policy known steps

    by_owed : (owed : Bool) → s.owed ≡ owed → is_met s.facts guard ≡ false
    by_owed false e = all.0.1 all.0.0 all.1 known fits steps e here
    by_owed true e =
        ⊎_elim (λ first. ap (λ x. is_met x.facts guard) first ∙ all.0.0 known fits (ap (λ x. x.current) (sym first) ∙ here))
        (λ asked.
        let fresh = asked.fresh in
        ap (λ facts. is_met facts guard) fresh.kept
        ∙ all.1 fresh.known fresh.fits fresh.steps fresh.facts asked.asked (fresh.leads ∙ ap (λ x. Some x) here))
        (owed_are_asked active policy known fits steps e)

both_said : (policy : Policy) (state : StateId) (guard : Guard) (opening resting staying : Extent) → IsAtOpenings policy state guard opening → IsStaying policy state guard resting → staying ≡ either opening resting
    → IsAnswered (IsFalseAtOpenings policy state guard × IsFalseStaying policy state guard) (WouldBe policy state guard) staying
both_said policy state guard opening resting staying h k is =
    subst (IsAnswered (IsFalseAtOpenings policy state guard × IsFalseStaying policy state guard) (WouldBe policy state guard)) (sym is)
    (answered_both (IsFalseAtOpenings policy state guard) (IsFalseStaying policy state guard) (WouldBe policy state guard) opening resting h k)

pub moment_staying : (policy : Policy) (state : StateId) (guard : Guard) (opening resting staying : Extent) → IsAtOpenings policy state guard opening → IsStaying policy state guard resting → staying ≡ either opening resting
    → staying ≡ Somewhere → IsToldOfMoments policy state guard Somewhere
moment_staying policy state guard opening resting staying h k is found =
    subst (IsAnswered (IsFalseAtOpenings policy state guard × IsFalseStaying policy state guard) (WouldBe policy state guard)) found (both_said policy state guard opening resting staying h k is)

pub moment_said : ActiveAreMentioned → (policy : Policy) (state : StateId) (guard : Guard) (opening resting staying arriving extent : Extent) → IsAtOpenings policy state guard opening → IsStaying policy state guard resting
    → staying ≡ either opening resting → IsArriving policy state guard arriving → extent ≡ either staying arriving → IsToldOfMoments policy state guard extent
moment_said active policy state guard opening resting staying arriving extent h k staying_is l is =
    let B = WouldBe policy state guard in
    let both = IsFalseAtOpenings policy state guard × IsFalseStaying policy state guard in
    told_of (NeverIn policy state guard) B (either staying arriving) extent is
    (answered_by (both × IsFalseOnArrival policy state guard) (NeverIn policy state guard) B (either staying arriving) (never_by active policy state guard)
    (answered_both both (IsFalseOnArrival policy state guard) B staying arriving (both_said policy state guard opening resting staying h k staying_is) l))
