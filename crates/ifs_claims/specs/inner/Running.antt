-- What runs a command while a guard is met.
use Rattle.std.specs.Prelude.{ℕ, ◌≡◌, ◌<◌, true, false, List, length, Some, slice_get}
use Rattle.ifs_base.specs.Facts.{Facts}
use Rattle.ifs_base.specs.declared.ids.CommandId.{CommandId}
use Rattle.ifs_base.specs.declared.ids.StateId.{StateId}
use Rattle.ifs_core.specs.declared.step.Step.{Step}
use Rattle.ifs_core.specs.Event.{Handler, AlwaysBody, Init, Body}
use Rattle.ifs_core.specs.Gateway.{Known}
use Rattle.ifs_gen.specs.Events.{yield_of}
use Rattle.ifs_gen.specs.Trees.{Part, Policy}
use Rattle.ifs_policy.specs.Fits.{PolicyFits}
use Rattle.ifs_policy.specs.Meaning.{Block}
use Rattle.ifs_solver.specs.declared.searching.Extent.{Extent}
use Rattle.ifs_solver.specs.Situations.{IsKnownFor, situation_after, leads_to}
use Rattle.ifs_claims.specs.Asked.{AreFactsIn}
use Rattle.ifs_claims.specs.Claims.{queues}
use Rattle.ifs_claims.specs.Moves.{kept_facts}
use Rattle.ifs_claims.specs.Told.{WouldRun}
use Rattle.ifs_claims.specs.inner.Kept.{kept_block}
use Rattle.ifs_claims.specs.inner.Opening.{AreQuietOpenings}
use Rattle.ifs_solver.specs.Asking.{Guard, is_met, IsAnswered}

-- Under facts of one kind a handler runs the command only while the guard is not met.
abbrev pub IsQuietAmong : (Facts → Type 0) → Policy → CommandId → Guard → Handler → Type 0
IsQuietAmong P policy command guard handler = (facts : Facts) → P facts → queues command (yield_of policy handler facts).commands ≡ true → is_met facts guard ≡ false

-- So it does in a state that steps lead to, under facts there.
abbrev pub IsQuietThere : Policy → CommandId → Guard → StateId → Handler → Type 0
IsQuietThere policy command guard state handler =
    (known : Known) → IsKnownFor policy known → (steps : List Step) → (situation_after policy known steps).current ≡ state → IsQuietAmong (AreFactsIn policy state) policy command guard handler

-- The always body does there, and so does the body of the state.
abbrev pub IsQuietAlways : Policy → CommandId → Guard → StateId → Type 0
IsQuietAlways policy command guard state = IsQuietThere policy command guard state AlwaysBody

abbrev pub IsQuietBody : Policy → CommandId → Guard → StateId → Type 0
IsQuietBody policy command guard state = IsQuietThere policy command guard state (Body state.0)

-- An evaluation leads to a state whose init runs the command only while the guard is not met.
abbrev pub IsQuietInit : Policy → CommandId → Guard → StateId → Type 0
IsQuietInit policy command guard state =
    (known : Known) → IsKnownFor policy known → (steps : List Step) (facts : Facts) → AreFactsIn policy (situation_after policy known steps).current facts
    → leads_to policy facts (situation_after policy known steps).current ≡ Some state → queues command (yield_of policy (Init state.0) (kept_facts policy facts)).commands ≡ true → is_met facts guard ≡ false

-- The answers for the always body in a state, in the first ones, and in all.
abbrev pub IsAlways : Policy → CommandId → Guard → StateId → Extent → Type 0
IsAlways policy command guard state = IsAnswered (IsQuietAlways policy command guard state) (WouldRun policy command guard)

abbrev pub AreAlwaysBefore : Policy → CommandId → Guard → ℕ → Extent → Type 0
AreAlwaysBefore policy command guard count =
    IsAnswered ((state : StateId) → state.0 < count → IsQuietAlways policy command guard state) (WouldRun policy command guard)

abbrev pub AreAlways : Policy → CommandId → Guard → Extent → Type 0
AreAlways policy command guard = IsAnswered ((state : StateId) → IsQuietAlways policy command guard state) (WouldRun policy command guard)

-- The answers for the body of a state with this part, and for the init of a state.
abbrev pub IsBody : Policy → CommandId → Guard → StateId → Part → Extent → Type 0
IsBody policy command guard state part extent =
    slice_get policy.states state.0 ≡ Some part → IsAnswered (IsQuietBody policy command guard state) (WouldRun policy command guard) extent

abbrev pub IsInit : Policy → CommandId → Guard → StateId → Extent → Type 0
IsInit policy command guard state = IsAnswered (IsQuietInit policy command guard state) (WouldRun policy command guard)

-- It does so from one state, and the answers for this state and for the first ones.
abbrev pub IsQuietInitFrom : Policy → CommandId → Guard → StateId → StateId → Type 0
IsQuietInitFrom policy command guard state previous =
    (known : Known) → IsKnownFor policy known → (steps : List Step) (facts : Facts) → AreFactsIn policy previous facts → (situation_after policy known steps).current ≡ previous → leads_to policy facts previous ≡ Some state
    → queues command (yield_of policy (Init state.0) (kept_facts policy facts)).commands ≡ true → is_met facts guard ≡ false

abbrev pub IsInitFrom : Policy → CommandId → Guard → StateId → StateId → Extent → Type 0
IsInitFrom policy command guard state previous = IsAnswered (IsQuietInitFrom policy command guard state previous) (WouldRun policy command guard)

abbrev pub AreInitsBefore : Policy → CommandId → Guard → StateId → ℕ → Extent → Type 0
AreInitsBefore policy command guard state count = IsAnswered ((previous : StateId) → previous.0 < count → IsQuietInitFrom policy command guard state previous) (WouldRun policy command guard)

-- A block says of the facts before an entry what the init of the state reaches after it.
pub record IsInitBefore (policy : Policy) (state : StateId) (init : Block) : Type 0 where
  pub fits : PolicyFits policy
  pub part : Part
  pub there : slice_get policy.states state.0 ≡ Some part
  pub init_is : init ≡ kept_block policy.always.body part.init

-- A state runs the command by neither.
abbrev pub IsQuietState : Policy → CommandId → Guard → StateId → Type 0
IsQuietState policy command guard state = IsQuietBody policy command guard state × IsQuietInit policy command guard state

abbrev pub IsState : Policy → CommandId → Guard → StateId → Extent → Type 0
IsState policy command guard state = IsAnswered (IsQuietState policy command guard state) (WouldRun policy command guard)

-- The answers for the first states, and for all.
abbrev pub AreStatesBefore : Policy → CommandId → Guard → ℕ → Extent → Type 0
AreStatesBefore policy command guard count =
    IsAnswered ((state : StateId) → state.0 < count → IsQuietState policy command guard state) (WouldRun policy command guard)

abbrev pub AreStates : Policy → CommandId → Guard → Extent → Type 0
AreStates policy command guard = AreStatesBefore policy command guard (length policy.states)

-- The answers for openings, and for evaluations.
abbrev pub AreOpenings : Policy → CommandId → Guard → Extent → Type 0
AreOpenings policy command guard = IsAnswered (AreQuietOpenings policy command guard) (WouldRun policy command guard)

abbrev pub AreEvaluations : Policy → CommandId → Guard → Extent → Type 0
AreEvaluations policy command guard =
    IsAnswered (((state : StateId) → IsQuietAlways policy command guard state) × ((state : StateId) → state.0 < length policy.states → IsQuietState policy command guard state)) (WouldRun policy command guard)
