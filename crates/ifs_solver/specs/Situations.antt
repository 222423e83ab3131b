-- Situations of a policy, and what holds in each that steps lead to.
use Rattle.std.specs.Prelude.{ℕ, slice_get, ◌≡◌, ◌≢◌, ◌⊎◌, Bool, true, false, List, length, Option, Some, None, IsTrue}
use Rattle.ifs_base.specs.Facts.{Facts}
use Rattle.ifs_base.specs.Effects.{later_wish}
use Rattle.ifs_base.specs.declared.ids.StateId.{StateId}
use Rattle.ifs_core.specs.declared.step.Step.{Step}
use Rattle.ifs_core.specs.Event.{Body, AlwaysBody, Behaviour, Position, kept_values, change_of}
use Rattle.ifs_core.specs.Machine.{IsBehaviour}
use Rattle.ifs_core.specs.Gateway.{Known, IsKnownOf, opened}
use Rattle.ifs_core.specs.Steps.{after_steps}
use Rattle.ifs_gen.specs.Trees.{Policy}
use Rattle.ifs_gen.specs.PlainSizes.{room_of, CodeFits}
use Rattle.ifs_gen.specs.PolicyImage.{image_of}
use Rattle.ifs_gen.specs.Events.{behaviour_of, policy_opened, yield_of}
use Rattle.ifs_policy.specs.Fits.{PolicyFits}
use Rattle.ifs_solver.specs.declared.searching.Extent.{Extent}
use Rattle.ifs_solver.specs.declared.searching.Extent.TheVariants.{Somewhere, Nowhere, Undecided}
use Rattle.ifs_solver.specs.declared.touring.StateAnswer.{StateAnswer}
use Rattle.ifs_solver.specs.FactSets.{AreFactsOf, scope_of}

-- A situation: the facts, the current state, and whether an evaluation is owed. Schedule, queue and trace are left aside.
pub record Situation : Type 0 where
  pub facts : Facts
  pub current : StateId
  pub owed : Bool

-- The situation at a position.
abbrev pub situation_of : Position → Situation
situation_of p = record { facts = p.facts; current = p.current; owed = p.owed }

-- What is known at an opening has a link state for each interface of a policy.
abbrev pub IsKnownFor : Policy → Known → Type 0
IsKnownFor policy known = length known.links ≡ length policy.tables.interfaces

-- The situation after some steps, from what was known at the opening.
abbrev pub situation_after : Policy → Known → List Step → Situation
situation_after policy known steps = situation_of (after_steps (behaviour_of policy) (room_of policy) steps (policy_opened policy known)).position

-- It holds whatever is known at the opening, and after any steps.
abbrev pub HoldsAfterSteps : Policy → (Situation → Type 0) → Type 0
HoldsAfterSteps policy P = (known : Known) → IsKnownFor policy known → (steps : List Step) → P (situation_after policy known steps)

-- The last wish of an evaluation in a state.
abbrev pub wish_of : Policy → Facts → StateId → Option StateId
wish_of policy facts state = later_wish (yield_of policy AlwaysBody facts).wish (yield_of policy (Body state.0) facts).wish

-- The state that an evaluation leads to, if it is another one.
abbrev pub leads_to : Policy → Facts → StateId → Option StateId
leads_to policy facts state = change_of state (wish_of policy facts state)

-- The situation after an evaluation that leads to another state, or not.
abbrev pub entered_by : Policy → Facts → StateId → Option StateId → Situation
entered_by policy facts state None = record { facts = facts; current = state; owed = false }
entered_by policy facts state (Some next) =
    record { facts = record { links = facts.links; tests = kept_values (behaviour_of policy).always facts.tests }; current = next; owed = true }

-- The situation after an evaluation in a state.
abbrev pub evaluated : Policy → Facts → StateId → Situation
evaluated policy facts state = entered_by policy facts state (leads_to policy facts state)

-- A set of situations that has the openings, and with each situation all that an evaluation makes of its state under any facts.
pub record IsClosed (policy : Policy) (set : Situation → Bool) : Type 0 where
  pub opening : (known : Known) → IsKnownFor policy known → IsTrue (set (situation_of (policy_opened policy known).position))
  pub evaluation : (s : Situation) → IsTrue (set s) → (facts : Facts) → AreFactsOf (scope_of policy) facts → IsTrue (set (evaluated policy facts s.current))

-- Such a set has every situation that steps lead to.
abbrev pub ClosedHolds : Type 0
ClosedHolds = (policy : Policy) (set : Situation → Bool) → IsClosed policy set → HoldsAfterSteps policy (λ s. IsTrue (set s))

-- Where nothing is owed, an evaluation leads to no other state.
abbrev pub IsAtRest : Policy → Situation → Type 0
IsAtRest policy s = s.owed ≡ false → leads_to policy s.facts s.current ≡ None

-- Every situation that steps lead to is at rest if nothing is owed.
abbrev pub RestsStay : Type 0
RestsStay = (policy : Policy) → HoldsAfterSteps policy (IsAtRest policy)

-- A set of states that has the initial one, and with each state those that an evaluation in it leads to.
pub record AreEntered (policy : Policy) (states : StateId → Bool) : Type 0 where
  pub initial : IsTrue (states policy.initial)
  pub next : (state next : StateId) (facts : Facts) → IsTrue (states state) → AreFactsOf (scope_of policy) facts → leads_to policy facts state ≡ Some next → IsTrue (states next)

-- Such a set has every state that steps enter.
abbrev pub EnteredByWishes : Type 0
EnteredByWishes = (policy : Policy) (states : StateId → Bool) → AreEntered policy states → HoldsAfterSteps policy (λ s. IsTrue (states s.current))

-- No steps enter a state.
abbrev pub IsNeverEntered : Policy → StateId → Type 0
IsNeverEntered policy state = HoldsAfterSteps policy (λ s. s.current ≢ state)

-- Evaluations under some facts lead from the initial state to a state.
pub data IsLedTo (policy : Policy) : StateId → Type 0 where
  initially : IsLedTo policy policy.initial
  onwards : (state next : StateId) (facts : Facts) → IsLedTo policy state → AreFactsOf (scope_of policy) facts → leads_to policy facts state ≡ Some next → IsLedTo policy next

-- Some facts leave a state.
abbrev pub IsLeft : Policy → StateId → Type 0
IsLeft policy state = (facts : Facts) × (next : StateId) × AreFactsOf (scope_of policy) facts × (leads_to policy facts state ≡ Some next)

-- No facts leave a state.
abbrev pub IsNeverLeft : Policy → StateId → Type 0
IsNeverLeft policy state = (facts : Facts) → AreFactsOf (scope_of policy) facts → leads_to policy facts state ≡ None

-- What is said of whether a state is entered is so: evaluations lead there, or no steps enter it.
abbrev pub IsEntryOf : Policy → StateId → Extent → Type 0
IsEntryOf policy state Somewhere = IsLedTo policy state
IsEntryOf policy state Nowhere = IsNeverEntered policy state
IsEntryOf policy state Undecided = Unit {0}

-- What is said of whether a state is left is so.
abbrev pub IsExitOf : Policy → StateId → Extent → Type 0
IsExitOf policy state Somewhere = IsLeft policy state
IsExitOf policy state Nowhere = IsNeverLeft policy state
IsExitOf policy state Undecided = Unit {0}

-- An answer for a state is right.
pub record IsStateAnswer (policy : Policy) (state : StateId) (answer : StateAnswer) : Type 0 where
  pub entered : IsEntryOf policy state answer.entered
  pub left : IsExitOf policy state answer.left

-- An answer leaves open whether a state is entered, or whether it is left.
abbrev pub LeavesOpen : StateAnswer → Type 0
LeavesOpen answer = (answer.entered ≡ Undecided) ⊎ (answer.left ≡ Undecided)

-- Each state has its answer, in order.
pub record AreStateAnswers (policy : Policy) (answers : List StateAnswer) : Type 0 where
  pub count : length answers ≡ length policy.states
  pub each : (k : ℕ) (answer : StateAnswer) → slice_get answers k ≡ Some answer → IsStateAnswer policy (record { 0 = k }) answer

-- What holds of a policy's run holds of every core of its image, whatever behaves as its handlers do on the machine.
abbrev pub HoldsOfImages : Type 0
HoldsOfImages =
    (policy : Policy) → PolicyFits policy → CodeFits policy → (set : Situation → Bool) → HoldsAfterSteps policy (λ s. IsTrue (set s)) → (b : Behaviour) → IsBehaviour (image_of policy) b
    → (known : Known) → IsKnownOf (image_of policy) known → (steps : List Step) → IsTrue (set (situation_of (after_steps b (room_of policy) steps (opened b (image_of policy) known)).position))
