-- Entries of a state while a guard is met.
use Rattle.std.proofs.Common.{◌≡◌, ℕ, ◌<◌, ◌≤◌, ⊎_elim, Bool, true, false, ◌&&◌, length, Option, Some, None, eqb, refl, sym, ap, ◌∙◌, subst, arith}
use Rattle.std.specs.Prelude.{if◌then◌else◌}
use Rattle.std.proofs.lemmas.Bool.{false≢true, eq-eqb}
use Rattle.std.proofs.lemmas.Option.{none-some, same_Some, slice_get_within}
use Rattle.ifs_base.specs.declared.ids.StateId.{StateId}
use Rattle.ifs_core.specs.Event.{change_of}
use Rattle.ifs_gen.specs.Trees.{Policy}
use Rattle.ifs_policy.specs.Fits.{PolicyFits}
use Rattle.ifs_policy.specs.Meaning.{Block}
use Rattle.ifs_solver.specs.declared.constraints.Aim.TheVariants.{To}
use Rattle.ifs_solver.specs.declared.searching.Extent.{Extent}
use Rattle.ifs_solver.specs.declared.searching.Extent.TheVariants.{Somewhere, Nowhere, Undecided}
use Rattle.ifs_solver.specs.Asking.{Guard, is_met, IsExtentAmong}
use Rattle.ifs_solver.specs.FactSets.{FactSet, Within, scope_of}
use Rattle.ifs_gen.specs.Events.{ActiveAreMentioned}
use Rattle.ifs_claims.specs.Asked.{AreFactsIn}
use Rattle.ifs_claims.specs.inner.AskedSets.{asked_fact_set}
use Rattle.ifs_claims.proofs.AskedFor.{steps_see_facts_in}
use Rattle.ifs_solver.specs.Situations.{situation_after, wish_of, leads_to, IsNeverEntered}
use Rattle.ifs_claims.specs.Claims.{NeverEntersWhile}
use Rattle.ifs_claims.specs.Moves.{seen}
use Rattle.ifs_claims.specs.Told.{WouldEnter, IsToldOfEntryWhile}
use Rattle.ifs_claims.specs.inner.Stays.{AreBodiesIn, where_hit, where_moving}
use Rattle.ifs_claims.specs.inner.Entering.{IsQuietFrom, IsQuietEntry, IsFrom, IsFromBefore, IsEntering}
use Rattle.ifs_claims.proofs.Standing.{states_stay, steps_evaluate}
use Rattle.ifs_claims.proofs.Staying.{among_asked, hit_in}
use Rattle.ifs_claims.proofs.Answering.{same_state, answered_by, told_of}
use Rattle.ifs_claims.proofs.Leading.{leads_by, hit_by}

-- No evaluation leads to the state that it is in.
pub never_itself : (state : StateId) (wish : Option StateId) → change_of state wish ≡ Some state → ⊥
never_itself state None e = none-some state e
never_itself state (Some other) e = by_test (eqb other.0 state.0) refl e
  where
    by_test : (c : Bool) → eqb other.0 state.0 ≡ c → (if c then None else Some other) ≡ Some state → ⊥
    by_test true t h = none-some state h
    by_test false t h = false≢true (sym t ∙ eq-eqb other.0 state.0 (ap (λ s. s.0) (same_Some other state h)))

pub itself_quiet : (policy : Policy) (next : StateId) (guard : Guard) (state : StateId) → state.0 ≡ next.0 → IsQuietFrom policy next guard state
itself_quiet policy next guard state e known fits steps facts are at leads =
    absurd (never_itself state (wish_of policy facts state) (leads ∙ ap (λ s. Some s) (same_state next state (sym e))))

pub never_quiet : (policy : Policy) (next : StateId) (guard : Guard) (state : StateId) → IsNeverEntered policy state → IsQuietFrom policy next guard state
never_quiet policy next guard state never known fits steps facts are at leads = absurd (never known fits steps at)

first_of : (a t : Bool) → (a && t) ≡ true → a ≡ true
first_of true t e = refl
first_of false t e = e

second_of : (a t : Bool) → (a && t) ≡ true → t ≡ true
second_of true t e = e
second_of false t e = absurd (false≢true e)

pub not_second : (a t : Bool) → a ≡ true → (a && t) ≡ false → t ≡ false
not_second true t e f = f
not_second false t e f = absurd (false≢true e)

from_by : (policy : Policy) (next : StateId) (guard : Guard) (state : StateId) (always own : Block) (extent : Extent) → AreBodiesIn policy state always own → (state.0 ≡ next.0 → ⊥)
    → IsExtentAmong (AreFactsIn policy state) (where_moving always own next guard) extent → IsFrom policy next guard state extent
from_by policy next guard state always own Somewhere are differ h =
    let hit = where_hit always own (To next) h.0 in
    record {
      state = state;
      facts = h.0;
      are = h.1;
      leads = record { are = h.1.are; leads = leads_by state next (wish_of policy h.0 state) differ (hit_in policy state always own are (To next) h.0 ∙ first_of hit (is_met h.0 guard) h.2) };
      true_there = second_of hit (is_met h.0 guard) h.2;
    }
from_by policy next guard state always own Nowhere are differ h = λ known fits steps facts facts_are at leads.
    not_second (where_hit always own (To next) facts) (is_met facts guard) (sym (hit_in policy state always own are (To next) facts) ∙ hit_by state next (wish_of policy facts state) leads) (h facts facts_are)
from_by policy next guard state always own Undecided are differ h = tt

pub from_said : (policy : Policy) (next : StateId) (guard : Guard) (state : StateId) (always own : Block) (set : FactSet) (extent : Extent) → AreBodiesIn policy state always own → (state.0 ≡ next.0 → ⊥)
    → set ≡ asked_fact_set (scope_of policy) always own → IsExtentAmong (Within set) (where_moving always own next guard) extent → IsFrom policy next guard state extent
from_said policy next guard state always own set extent are differ is h =
    from_by policy next guard state always own extent are differ (among_asked policy state always own set (where_moving always own next guard) extent are is h)

-- From all states.
pub none_before : (policy : Policy) (next : StateId) (guard : Guard) → IsFromBefore policy next guard 0 Nowhere
none_before policy next guard state lt = absurd (omega (arith, lt))

pub entering_said : (policy : Policy) (next : StateId) (guard : Guard) (count : ℕ) (extent : Extent) → PolicyFits policy → length policy.tables.states ≤ count → IsFromBefore policy next guard count extent
    → IsEntering policy next guard extent
entering_said policy next guard count extent policy_fits all h =
    answered_by ((state : StateId) → state.0 < count → IsQuietFrom policy next guard state) (IsQuietEntry policy next guard) (WouldEnter policy next guard) extent
    (λ quiet known fits steps facts are leads.
    let s = situation_after policy known steps in
    let there = states_stay policy policy_fits known fits steps in
    let within = slice_get_within policy.states s.current.0 there.0 there.1 in
    let same = policy_fits.count in
    quiet s.current (omega (arith, all, within, same)) known fits steps facts are refl leads) h

entry_quiet : ActiveAreMentioned → (policy : Policy) (next : StateId) (guard : Guard) → IsQuietEntry policy next guard → NeverEntersWhile policy next guard
entry_quiet active policy next guard quiet known fits steps step elsewhere to =
    let before = situation_after policy known steps in
    let facts = seen step before.facts in
    ⊎_elim (λ same. absurd (elsewhere (sym same ∙ to)))
    (λ moves.
    ⊎_elim (λ still. absurd (elsewhere (ap (λ s. s.current) (sym still.0) ∙ to)))
    (λ asked. quiet known fits steps facts asked (subst (λ s. leads_to policy facts before.current ≡ Some s) to moves.leads)) (steps_see_facts_in active policy known fits steps step))
    (steps_evaluate policy known fits steps step).state

pub entry_while_told : ActiveAreMentioned → (policy : Policy) (next : StateId) (guard : Guard) (extent told : Extent) → IsEntering policy next guard extent → told ≡ extent → IsToldOfEntryWhile policy next guard told
entry_while_told active policy next guard extent told h is =
    told_of (NeverEntersWhile policy next guard) (WouldEnter policy next guard) extent told is
    (answered_by (IsQuietEntry policy next guard) (NeverEntersWhile policy next guard) (WouldEnter policy next guard) extent (entry_quiet active policy next guard) h)
