-- An answer to whether a claim would be broken is so: it holds, or these facts of one evaluation would break it.
use Rattle.std.specs.Prelude.{ℕ, ◌≡◌, ◌⊎◌, Bool, true, List, Some, None, slice_get, Contains}
use Rattle.ifs_base.specs.Facts.{Facts}
use Rattle.ifs_base.specs.declared.ids.CommandId.{CommandId}
use Rattle.ifs_base.specs.declared.ids.StateId.{StateId}
use Rattle.ifs_core.specs.Event.{Handler, AlwaysInit, AlwaysBody, Init, Body}
use Rattle.ifs_gen.specs.Events.{yield_of}
use Rattle.ifs_gen.specs.Trees.{Part, Policy}
use Rattle.ifs_policy.specs.Meaning.{IsHeld}
use Rattle.ifs_solver.specs.declared.searching.Extent.{Extent}
use Rattle.ifs_solver.specs.Asking.{Guard, is_met, IsAnswered}
use Rattle.ifs_solver.specs.FactSets.{AreFactsOf, scope_of}
use Rattle.ifs_solver.specs.Situations.{leads_to, IsLedTo, IsNeverEntered}
use Rattle.ifs_claims.specs.Asked.{AreFactsIn}
use Rattle.ifs_claims.specs.Moves.{Moves, LeadsBy, kept_facts}
use Rattle.ifs_claims.specs.Claims.{NeverRests, NeverSettles, NeverIn, RestsIn, NeverFrom, NeverEntersWhile, NeverRuns, queues}

-- A policy has no such state.
abbrev pub IsMissing : Policy → StateId → Type 0
IsMissing policy state = slice_get policy.states state.0 ≡ None

-- Facts in a state under which a guard is met while an evaluation leads to no other one.
pub record WouldRest (policy : Policy) (state : StateId) (guard : Guard) : Type 0 where
  pub facts : Facts
  pub are : AreFactsIn policy state facts
  pub stays : leads_to policy facts state ≡ None
  pub true_there : is_met facts guard ≡ true

-- Facts under which the policy would rest there, while neither body is held back.
pub record WouldSettle (policy : Policy) (state : StateId) (guard : Guard) : Type 0 where
  pub part : Part
  pub there : slice_get policy.states state.0 ≡ Some part
  pub rest : WouldRest policy state guard
  pub always : ¬ IsHeld rest.facts policy.always.body
  pub own : ¬ IsHeld rest.facts part.body

-- The same in another state than these.
pub record WouldRestElsewhere (policy : Policy) (states : List StateId) (guard : Guard) : Type 0 where
  pub state : StateId
  pub elsewhere : ¬ Contains states state
  pub settles : WouldSettle policy state guard

-- Facts in another state under which a guard is met while an evaluation leads to this one.
pub record WouldEnter (policy : Policy) (next : StateId) (guard : Guard) : Type 0 where
  pub state : StateId
  pub facts : Facts
  pub are : AreFactsIn policy state facts
  pub leads : LeadsBy policy facts state next
  pub true_there : is_met facts guard ≡ true

-- Facts in another state under which an evaluation leads to this one, where a guard is then met: the tests that are not active outside any state have lost their values.
pub record WouldArrive (policy : Policy) (next : StateId) (guard : Guard) : Type 0 where
  pub state : StateId
  pub facts : Facts
  pub are : AreFactsIn policy state facts
  pub leads : LeadsBy policy facts state next
  pub true_then : is_met (kept_facts policy facts) guard ≡ true

-- Facts of an opening: no test has a value.
pub record AreOpeningFacts (policy : Policy) (facts : Facts) : Type 0 where
  pub are : AreFactsOf (scope_of policy) facts
  pub valueless : (test : ℕ) (value : Bool) → slice_get facts.tests test ≡ Some (Some value) → ⊥

-- A guard is met in a state: at an opening, where an evaluation stays in the state, or where one has just led there.
pub data WouldBe (policy : Policy) (state : StateId) (guard : Guard) : Type 0 where
  by_opening : (facts : Facts) → state.0 ≡ policy.initial.0 → AreOpeningFacts policy facts → is_met facts guard ≡ true → WouldBe policy state guard
  by_rest : WouldRest policy state guard → WouldBe policy state guard
  by_move : WouldArrive policy state guard → WouldBe policy state guard

-- An init that an opening evaluates.
abbrev pub IsOpeningInit : Policy → Handler → Type 0
IsOpeningInit policy handler = (handler ≡ AlwaysInit) ⊎ (handler ≡ Init policy.initial.0)

-- A body that an evaluation in a state evaluates.
abbrev pub IsBodyIn : StateId → Handler → Type 0
IsBodyIn state handler = (handler ≡ AlwaysBody) ⊎ (handler ≡ Body state.0)

-- A command is run while a guard is met: by an init at an opening, by a body in a state, or by the init of a state that an evaluation leads to.
pub data WouldRun (policy : Policy) (command : CommandId) (guard : Guard) : Type 0 where
  at_opening : (handler : Handler) (facts : Facts) → IsOpeningInit policy handler → AreOpeningFacts policy facts → is_met facts guard ≡ true → queues command (yield_of policy handler facts).commands ≡ true → WouldRun policy command guard
  by_body : (state : StateId) (handler : Handler) (facts : Facts) → IsBodyIn state handler → AreFactsIn policy state facts → is_met facts guard ≡ true → queues command (yield_of policy handler facts).commands ≡ true → WouldRun policy command guard
  by_entry : (next : StateId) (enters : WouldEnter policy next guard) → queues command (yield_of policy (Init next.0) (kept_facts policy enters.facts)).commands ≡ true → WouldRun policy command guard

-- What is reported of whether a policy rests in a state while a guard is met.
abbrev pub IsToldOfRest : Policy → StateId → Guard → Extent → Type 0
IsToldOfRest policy state guard = IsAnswered (NeverRests policy state guard) (WouldRest policy state guard)

-- What is reported of whether a guard is met in a state at any moment.
abbrev pub IsToldOfMoments : Policy → StateId → Guard → Extent → Type 0
IsToldOfMoments policy state guard = IsAnswered (NeverIn policy state guard) (WouldBe policy state guard)

-- What is reported of whether a step leads from one state to another.
abbrev pub IsToldOfMove : Policy → StateId → StateId → Extent → Type 0
IsToldOfMove policy state next = IsAnswered (NeverFrom policy state next) (Moves policy state next)

-- What is reported of whether steps enter a state: if they may, evaluations lead there from the initial state.
abbrev pub IsToldOfEntry : Policy → StateId → Extent → Type 0
IsToldOfEntry policy state = IsAnswered (IsNeverEntered policy state) (IsLedTo policy state)

-- What is reported of whether a policy settles in a state while a guard is met.
abbrev pub IsToldOfSettling : Policy → StateId → Guard → Extent → Type 0
IsToldOfSettling policy state guard = IsAnswered (NeverSettles policy state guard) (WouldSettle policy state guard)

-- What is reported of where a policy rests while a guard is met.
abbrev pub IsToldOfRests : Policy → List StateId → Guard → Extent → Type 0
IsToldOfRests policy states guard = IsAnswered (RestsIn policy states guard) (WouldRestElsewhere policy states guard)

-- What is reported of whether steps enter a state while a guard is met.
abbrev pub IsToldOfEntryWhile : Policy → StateId → Guard → Extent → Type 0
IsToldOfEntryWhile policy next guard = IsAnswered (NeverEntersWhile policy next guard) (WouldEnter policy next guard)

-- What is reported of whether a command is run while a guard is met.
abbrev pub IsToldOfRuns : Policy → CommandId → Guard → Extent → Type 0
IsToldOfRuns policy command guard = IsAnswered (NeverRuns policy command guard) (WouldRun policy command guard)
