-- A tour of the states that evaluations lead to.
use Rattle.std.specs.Prelude.{ℕ, ◌≡◌, ◌≤◌, ◌<◌, ◌⊎◌, ◌+◌, true, false, not, List, [], ◌∷◌, ◌++◌, length, count_by, slice_get, slice_set, Some, None, Any, Contains}
use Rattle.ifs_base.specs.Effects.{later_wish}
use Rattle.ifs_base.specs.declared.ids.StateId.{StateId}
use Rattle.ifs_gen.specs.Trees.{Policy}
use Rattle.ifs_policy.specs.Meaning.{Block, body_yield}
use Rattle.ifs_policy.specs.Fits.{PolicyFits}
use Rattle.ifs_solver.specs.declared.constraints.Aim.{Aim}
use Rattle.ifs_solver.specs.declared.constraints.Aim.TheVariants.{To}
use Rattle.ifs_policy.specs.declared.policy.Handlers.{Handlers}
use Rattle.ifs_solver.specs.declared.fact_sets.Scope.{Scope}
use Rattle.ifs_solver.specs.declared.searching.Budget.{Budget}
use Rattle.ifs_solver.specs.declared.searching.Extent.{Extent}
use Rattle.ifs_solver.specs.declared.searching.Extent.TheVariants.{Somewhere, Nowhere, Undecided}
use Rattle.ifs_solver.specs.declared.touring.StateAnswer.{StateAnswer}
use Rattle.ifs_solver.specs.declared.touring.Tour.{Tour}
use Rattle.ifs_solver.specs.FactSets.{scope_of}
use Rattle.ifs_solver.specs.Asking.{hits, IsNowhere, IsExtentOf}
use Rattle.ifs_solver.specs.Budgets.{IsSpent, IsUsedUp}
use Rattle.ifs_solver.specs.Places.{Here}
use Rattle.ifs_solver.specs.Situations.{wish_of, IsLedTo, IsEntryOf, IsStateAnswer, AreStateAnswers, LeavesOpen}

-- An evaluation of these bodies wishes for a state that is aimed at.
abbrev pub where_wished : Block → Block → Aim → Here
where_wished always own aim facts = hits aim (later_wish (body_yield facts always).wish (body_yield facts own).wish)

-- No facts lead from one state to another.
abbrev pub IsNoEdge : Policy → StateId → StateId → Type 0
IsNoEdge policy state next = IsNowhere (scope_of policy) (λ facts. hits (To next) (wish_of policy facts state))

-- Of a budget, a tour has left no more than there was, and a question was undecided only if it is used up.
pub record IsPaidTour (given : Budget) (tour : Tour) : Type 0 where
  pub spent : IsSpent given tour.budget
  pub undecided : tour.is_decided ≡ false → IsUsedUp given tour.budget

-- A tour of a policy, paid from a budget: it has marked the initial state, and states that evaluations lead to.
pub record IsTourOf (policy : Policy) (given : Budget) (tour : Tour) : Type 0 where
  pub paid : IsPaidTour given tour
  pub scope : tour.scope ≡ scope_of policy
  pub always : tour.always.now ≡ policy.always.body
  pub states : tour.states.now ≡ policy.states
  pub count : tour.count ≡ length policy.states
  pub many : length tour.entered.items ≡ length policy.states
  pub initial : slice_get tour.entered.items policy.initial.0 ≡ Some true
  pub led : (state : StateId) → slice_get tour.entered.items state.0 ≡ Some true → IsLedTo policy state
  pub known : (state : StateId) → Contains tour.pending.items state → slice_get tour.entered.items state.0 ≡ Some true

-- Each marked state is pending, or no facts lead from it to one that is not marked.
pub record IsToured (policy : Policy) (given : Budget) (tour : Tour) : Type 0 where
  pub is : IsTourOf policy given tour
  pub done : tour.is_decided ≡ true → (state next : StateId) → slice_get tour.entered.items state.0 ≡ Some true → slice_get tour.entered.items next.0 ≡ Some false
      → Contains tour.pending.items state ⊎ IsNoEdge policy state next

-- The same, except that from one state only those before a place were looked at.
pub record IsTouring (policy : Policy) (given : Budget) (present : StateId) (place : ℕ) (tour : Tour) : Type 0 where
  pub is : IsTourOf policy given tour
  pub marked : slice_get tour.entered.items present.0 ≡ Some true
  pub done : tour.is_decided ≡ true → (state next : StateId) → slice_get tour.entered.items state.0 ≡ Some true → slice_get tour.entered.items next.0 ≡ Some false
      → (Contains tour.pending.items state ⊎ IsNoEdge policy state next) ⊎ ((state ≡ present) × (place ≤ next.0))

-- Whether some facts in a state wish for one that is aimed at.
abbrev pub IsWishedIn : Scope → Block → List Handlers → StateId → Aim → Extent → Type 0
IsWishedIn scope always states state aim extent = (part : Handlers) → slice_get states state.0 ≡ Some part → IsExtentOf scope (where_wished always part.body aim) extent

-- A state is marked and pending.
pub record IsMarked (next : StateId) (old new : Tour) : Type 0 where
  pub entered : new.entered.items ≡ slice_set old.entered.items next.0 true
  pub pending : new.pending.items ≡ old.pending.items ++ next ∷ []
  pub is_decided : new.is_decided ≡ old.is_decided

-- No state is marked.
pub record IsUnmarked (old new : Tour) : Type 0 where
  pub entered : new.entered.items ≡ old.entered.items
  pub pending : new.pending.items ≡ old.pending.items

-- If there is no such state, that is undecided.
abbrev pub IsAskedIn : Scope → Block → List Handlers → StateId → Aim → Extent → Type 0
IsAskedIn scope always states state aim extent = IsWishedIn scope always states state aim extent × (slice_get states state.0 ≡ None → extent ≡ Undecided)

-- That is undecided only if there is no such state, or the budget is used up.
abbrev pub IsPaidIn : List Handlers → StateId → Budget → Budget → Extent → Type 0
IsPaidIn states state before after extent = extent ≡ Undecided → (slice_get states state.0 ≡ None) ⊎ IsUsedUp before after

-- A state that is not marked is marked and pending if some facts lead there, and a tour is undecided if that is.
pub record HasNoted (next : StateId) (extent : Extent) (old new : Tour) : Type 0 where
  pub scope : new.scope ≡ old.scope
  pub always : new.always ≡ old.always
  pub states : new.states ≡ old.states
  pub count : new.count ≡ old.count
  pub budget : new.budget ≡ old.budget
  pub somewhere : extent ≡ Somewhere → IsMarked next old new
  pub nowhere : extent ≡ Nowhere → IsUnmarked old new × (new.is_decided ≡ old.is_decided)
  pub undecided : extent ≡ Undecided → IsUnmarked old new × (new.is_decided ≡ false)

-- A tour goes on, whatever policy it is of.
abbrev pub Looks : StateId → StateId → Tour → Tour → Type 0
Looks present next old new = (policy : Policy) (given : Budget) → IsTouring policy given present next.0 old → IsTouring policy given present (next.0 + 1) new

-- A state is visited.
abbrev pub Visits : StateId → Tour → Tour → Type 0
Visits present old new = (policy : Policy) (given : Budget) → IsTouring policy given present 0 old → IsToured policy given new

-- Pending states are visited.
abbrev pub Runs : Tour → Tour → Type 0
Runs old new = (policy : Policy) (given : Budget) → IsToured policy given old → IsToured policy given new

-- The number of states that are pending or not marked.
abbrev pub ahead : Tour → ℕ
ahead tour = count_by not tour.entered.items + length tour.pending.items

-- It says whether a state is entered.
abbrev pub SaysEntry : StateId → Tour → Extent → Type 0
SaysEntry state tour extent = (policy : Policy) (given : Budget) → PolicyFits policy → IsToured policy given tour → IsEntryOf policy state extent

-- After a tour it is undecided whether a state of the policy is entered only if the budget is used up.
abbrev pub PaysEntry : StateId → Tour → Extent → Type 0
PaysEntry state tour extent =
    (policy : Policy) (given : Budget) → IsToured policy given tour → tour.pending.items ≡ [] → state.0 < length policy.states → extent ≡ Undecided → IsUsedUp given tour.budget

-- It says of all states whether they are entered and left.
abbrev pub SaysAll : Tour → List StateAnswer → Type 0
SaysAll tour answers = (policy : Policy) (given : Budget) → PolicyFits policy → IsToured policy given tour → AreStateAnswers policy answers

-- It says of a state whether it is entered and left.
abbrev pub Says : StateId → Tour → StateAnswer → Type 0
Says state tour answer = (policy : Policy) (given : Budget) → PolicyFits policy → IsToured policy given tour → IsStateAnswer policy state answer

-- After a tour an answer for a state of the policy leaves something open only if the budget is used up.
abbrev pub Pays : StateId → Tour → Tour → StateAnswer → Type 0
Pays state old new answer =
    (policy : Policy) (given : Budget) → IsToured policy given old → old.pending.items ≡ [] → state.0 < length policy.states → LeavesOpen answer → IsUsedUp given new.budget

-- The same of all answers.
abbrev pub PaysAll : Tour → Tour → List StateAnswer → Type 0
PaysAll old new answers = (policy : Policy) (given : Budget) → IsToured policy given old → old.pending.items ≡ [] → Any LeavesOpen answers → IsUsedUp given new.budget

-- It has asked, and marked nothing.
pub record HasAskedOnly (old new : Tour) : Type 0 where
  pub scope : new.scope ≡ old.scope
  pub always : new.always ≡ old.always
  pub states : new.states ≡ old.states
  pub count : new.count ≡ old.count
  pub entered : new.entered ≡ old.entered
  pub pending : new.pending ≡ old.pending
  pub is_decided : new.is_decided ≡ old.is_decided
  pub spent : IsSpent old.budget new.budget
