-- Evaluations that lead from one state to another.
use Rattle.std.proofs.Common.{◌≡◌, ⊎_elim, Bool, true, false, [], ◌∷◌, ◌++◌, Option, Some, None, eqb, refl, sym, ap, ◌∙◌, subst}
use Rattle.std.specs.Prelude.{if◌then◌else◌}
use Rattle.std.proofs.lemmas.Bool.{false≢true, true≢false, eqb-true, eq-eqb}
use Rattle.std.proofs.lemmas.Option.{none-some, same_Some}
use Rattle.ifs_base.specs.declared.ids.StateId.{StateId}
use Rattle.ifs_core.specs.Event.{change_of}
use Rattle.ifs_gen.specs.Trees.{Policy}
use Rattle.ifs_policy.specs.Meaning.{Block}
use Rattle.ifs_solver.specs.declared.constraints.Aim.TheVariants.{To}
use Rattle.ifs_solver.specs.declared.fact_sets.Scope.{Scope}
use Rattle.ifs_solver.specs.declared.searching.Extent.{Extent}
use Rattle.ifs_solver.specs.declared.searching.Extent.TheVariants.{Somewhere, Nowhere, Undecided}
use Rattle.ifs_solver.specs.Asking.{hits, IsExtentOf}
use Rattle.ifs_solver.specs.FactSets.{scope_of}
use Rattle.ifs_solver.specs.Situations.{situation_after, wish_of, leads_to, IsNeverEntered, IsEntryOf}
use Rattle.ifs_claims.specs.Claims.{NeverFrom}
use Rattle.ifs_claims.specs.Moves.{seen}
use Rattle.ifs_claims.specs.Told.{IsToldOfEntry, IsToldOfMove}
use Rattle.ifs_claims.specs.inner.Stays.{AreBodiesIn, where_hit}
use Rattle.ifs_claims.proofs.Standing.{steps_evaluate}
use Rattle.ifs_claims.proofs.Staying.{hit_in}
use Rattle.ifs_claims.proofs.Answering.{same_state}

-- What is reported of an entry.
pub entry_told : (policy : Policy) (state : StateId) (extent : Extent) → IsEntryOf policy state extent → IsToldOfEntry policy state extent
entry_told policy state Somewhere h = h
entry_told policy state Nowhere h = h
entry_told policy state Undecided h = tt

-- An evaluation leads to another state exactly if that is its last wish.
pub leads_by : (state next : StateId) (wish : Option StateId) → (state.0 ≡ next.0 → ⊥) → hits (To next) wish ≡ true → change_of state wish ≡ Some next
leads_by state next None differ e = absurd (false≢true e)
leads_by state next (Some other) differ e = by_test (eqb other.0 state.0) refl (same_state other next (eqb-true other.0 next.0 e))
  where
    by_test : (c : Bool) → eqb other.0 state.0 ≡ c → other ≡ next → (if c then None else Some other) ≡ Some next
    by_test true t same = absurd (differ (sym (eqb-true other.0 state.0 t) ∙ ap (λ s. s.0) same))
    by_test false t same = ap (λ s. Some s) same

pub hit_by : (state next : StateId) (wish : Option StateId) → change_of state wish ≡ Some next → hits (To next) wish ≡ true
hit_by state next None e = absurd (none-some next e)
hit_by state next (Some other) e = by_test (eqb other.0 state.0) e
  where
    by_test : (c : Bool) → (if c then None else Some other) ≡ Some next → eqb other.0 next.0 ≡ true
    by_test true h = absurd (none-some next h)
    by_test false h = eq-eqb other.0 next.0 (ap (λ s. s.0) (same_Some other next h))

-- A state that is never entered, and another one.
pub move_never : (policy : Policy) (state next : StateId) → IsNeverEntered policy state → NeverFrom policy state next
move_never policy state next never known fits steps step at to = never known fits steps at

pub move_never_to : (policy : Policy) (state next : StateId) → IsNeverEntered policy next → NeverFrom policy state next
move_never_to policy state next never known fits steps step at to = never known fits (steps ++ step ∷ []) to

move_by : (policy : Policy) (state next : StateId) (always own : Block) (extent : Extent) → AreBodiesIn policy state always own → (state.0 ≡ next.0 → ⊥) → IsExtentOf (scope_of policy) (where_hit always own (To next)) extent
    → IsToldOfMove policy state next extent
move_by policy state next always own Somewhere are differ h =
    (h.0, record { are = h.1; leads = leads_by state next (wish_of policy h.0 state) differ (hit_in policy state always own are (To next) h.0 ∙ h.2) })
move_by policy state next always own Nowhere are differ h = λ known fits steps step at to.
    let before = situation_after policy known steps in
    let after = situation_after policy known (steps ++ step ∷ []) in
    ⊎_elim (λ same. differ (ap (λ s. s.0) (sym at ∙ sym same ∙ to)))
    (λ moves.
    let facts = seen step before.facts in
    true≢false
    (sym (hit_by state next (wish_of policy facts state) (subst (λ s. leads_to policy facts s ≡ Some next) at (subst (λ s. leads_to policy facts before.current ≡ Some s) to moves.leads)))
    ∙ hit_in policy state always own are (To next) facts ∙ h facts moves.are))
    (steps_evaluate policy known fits steps step).state
move_by policy state next always own Undecided are differ h = tt

pub move_told : (policy : Policy) (state next : StateId) (always own : Block) (scope : Scope) (extent told : Extent) → AreBodiesIn policy state always own → (state.0 ≡ next.0 → ⊥) → scope ≡ scope_of policy
    → IsExtentOf scope (where_hit always own (To next)) extent → told ≡ extent → IsToldOfMove policy state next told
move_told policy state next always own scope extent told are differ scope_is h told_is =
    subst (IsToldOfMove policy state next) (sym told_is) (move_by policy state next always own extent are differ (subst (λ s. IsExtentOf s (where_hit always own (To next)) extent) scope_is h))
