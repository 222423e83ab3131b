-- What steps leave and change in the situation of a policy.
use Rattle.std.specs.Prelude.{◌≡◌, ◌⊎◌, true, List, [], ◌∷◌, ◌++◌, Option, Some, None, slice_get, slice_set}
use Rattle.ifs_base.specs.Facts.{Facts}
use Rattle.ifs_base.specs.declared.ids.StateId.{StateId}
use Rattle.ifs_base.specs.declared.ids.CommandId.{CommandId}
use Rattle.ifs_core.specs.declared.step.Step.{Step}
use Rattle.ifs_core.specs.declared.step.Step.TheVariants.{Link, Finished, Tick, Take}
use Rattle.ifs_core.specs.Event.{AlwaysBody, Body, Init, kept_values}
use Rattle.ifs_core.specs.Gateway.{Known}
use Rattle.ifs_core.specs.Steps.{CoreState, commands_told, after_steps, turn}
use Rattle.ifs_gen.specs.Trees.{Part, Policy}
use Rattle.ifs_gen.specs.PlainSizes.{room_of}
use Rattle.ifs_gen.specs.Events.{behaviour_of, policy_opened, yield_of}
use Rattle.ifs_policy.specs.Fits.{PolicyFits}
use Rattle.ifs_solver.specs.FactSets.{AreFactsOf, scope_of}
use Rattle.ifs_claims.specs.Asked.{AreFactsIn}
use Rattle.ifs_solver.specs.Situations.{Situation, IsKnownFor, HoldsAfterSteps, situation_after, leads_to, evaluated}

-- After any steps there is a link state for each interface, and a place for the value of each test.
abbrev pub FactsStay : Type 0
FactsStay = (policy : Policy) → HoldsAfterSteps policy (λ s. AreFactsOf (scope_of policy) s.facts)

-- A policy has the state.
abbrev pub IsThere : Policy → StateId → Type 0
IsThere policy state = (part : Part) × (slice_get policy.states state.0 ≡ Some part)

-- After any steps the current state is one that the policy has.
abbrev pub StatesStay : Type 0
StatesStay = (policy : Policy) → PolicyFits policy → HoldsAfterSteps policy (λ s. IsThere policy s.current)

-- An evaluation in one state leads to another one.
pub record LeadsBy (policy : Policy) (facts : Facts) (state next : StateId) : Type 0 where
  pub are : AreFactsOf (scope_of policy) facts
  pub leads : leads_to policy facts state ≡ Some next

-- Facts under which it does.
abbrev pub Moves : Policy → StateId → StateId → Type 0
Moves policy state next = (facts : Facts) × LeadsBy policy facts state next

-- The facts that a step evaluates: those that were known, with what the step brings.
abbrev pub seen : Step → Facts → Facts
seen (Link interface link) facts = record { links = slice_set facts.links interface.0 link; tests = facts.tests }
seen (Finished test run value) facts = record { links = facts.links; tests = slice_set facts.tests test.0 (Some value) }
seen (Tick now) facts = facts
seen Take facts = facts

-- The facts under which the init of the next state is evaluated: the tests that are not active outside any state have lost their values.
abbrev pub kept_facts : Policy → Facts → Facts
kept_facts policy facts = record { links = facts.links; tests = kept_values (behaviour_of policy).always facts.tests }

-- The commands of an evaluation, with those of the init of the state that it leads to.
abbrev pub with_init : Policy → Facts → Option StateId → List CommandId → List CommandId
with_init policy facts None commands = commands
with_init policy facts (Some next) commands = commands ++ (yield_of policy (Init next.0) (kept_facts policy facts)).commands

abbrev pub commands_of : Policy → Facts → StateId → List CommandId
commands_of policy facts state = with_init policy facts (leads_to policy facts state) ((yield_of policy AlwaysBody facts).commands ++ (yield_of policy (Body state.0) facts).commands)

-- The state is the same afterwards, or the evaluation leads to the other one.
abbrev pub IsStepFrom : Policy → Step → Situation → Situation → Type 0
IsStepFrom policy step before after = (after.current ≡ before.current) ⊎ LeadsBy policy (seen step before.facts) before.current after.current

-- The situation is the same afterwards, or the one after the evaluation.
abbrev pub IsSituationBy : Policy → Step → Situation → Situation → Type 0
IsSituationBy policy step before after =
    (after ≡ before) ⊎ (AreFactsOf (scope_of policy) (seen step before.facts) × (after ≡ evaluated policy (seen step before.facts) before.current))

-- Nothing is queued, or the commands of the evaluation are.
abbrev pub IsQueuedBy : Policy → Step → Situation → List CommandId → Type 0
IsQueuedBy policy step before commands = (commands ≡ []) ⊎ (AreFactsOf (scope_of policy) (seen step before.facts) × (commands ≡ commands_of policy (seen step before.facts) before.current))

-- The state of a policy's run after some steps.
abbrev pub state_after : Policy → Known → List Step → CoreState
state_after policy known steps = after_steps (behaviour_of policy) (room_of policy) steps (policy_opened policy known)

-- The commands that a further step queues.
abbrev pub queued_by : Policy → Known → List Step → Step → List CommandId
queued_by policy known steps step = commands_told (turn (behaviour_of policy) (room_of policy) step (state_after policy known steps)).reply

-- What a further step does, from the situation before it.
pub record IsEvaluatedBy (policy : Policy) (step : Step) (before after : Situation) (commands : List CommandId) : Type 0 where
  pub situation : IsSituationBy policy step before after
  pub state : IsStepFrom policy step before after
  pub queued : IsQueuedBy policy step before commands

-- It is so of each further step.
abbrev pub StepsEvaluate : Type 0
StepsEvaluate =
    (policy : Policy) (known : Known) → IsKnownFor policy known → (steps : List Step) (step : Step)
    → IsEvaluatedBy policy step (situation_after policy known steps) (situation_after policy known (steps ++ step ∷ [])) (queued_by policy known steps step)

-- A step evaluates nothing: the situation stays, and nothing is queued.
pub record IsQuiet (before after : Situation) (commands : List CommandId) : Type 0 where
  pub situation : after ≡ before
  pub queued : commands ≡ []

-- A step evaluates facts: the situation is the one after the evaluation, and its commands are queued.
pub record IsEvaluation (policy : Policy) (facts : Facts) (before after : Situation) (commands : List CommandId) : Type 0 where
  pub are : AreFactsOf (scope_of policy) facts
  pub situation : after ≡ evaluated policy facts before.current
  pub queued : commands ≡ commands_of policy facts before.current

-- A step evaluates nothing, or the facts that it sees.
abbrev pub IsOneStep : Policy → Step → Situation → Situation → List CommandId → Type 0
IsOneStep policy step before after commands = IsQuiet before after commands ⊎ IsEvaluation policy (seen step before.facts) before after commands

-- It is so of each further step.
abbrev pub StepsEvaluateOnce : Type 0
StepsEvaluateOnce =
    (policy : Policy) (known : Known) → IsKnownFor policy known → (steps : List Step) (step : Step)
    → IsOneStep policy step (situation_after policy known steps) (situation_after policy known (steps ++ step ∷ [])) (queued_by policy known steps step)

-- A further step evaluates nothing, or facts in the state before it.
abbrev pub IsSeenIn : Policy → Step → Situation → Situation → List CommandId → Type 0
IsSeenIn policy step before after commands = ((after ≡ before) × (commands ≡ [])) ⊎ AreFactsIn policy before.current (seen step before.facts)

-- It is so of each further step.
abbrev pub StepsSeeFactsIn : Type 0
StepsSeeFactsIn =
    (policy : Policy) (known : Known) → IsKnownFor policy known → (steps : List Step) (step : Step)
    → IsSeenIn policy step (situation_after policy known steps) (situation_after policy known (steps ++ step ∷ [])) (queued_by policy known steps step)

-- In this state the facts are as they were at an evaluation in a situation that steps lead to, which led there; but the tests that are not active outside any state have lost their values.
pub record IsFreshIn (policy : Policy) (s : Situation) : Type 0 where
  pub known : Known
  pub fits : IsKnownFor policy known
  pub steps : List Step
  pub facts : Facts
  pub are : AreFactsOf (scope_of policy) facts
  pub leads : leads_to policy facts (situation_after policy known steps).current ≡ Some s.current
  pub links : s.facts.links ≡ facts.links
  pub kept : s.facts ≡ kept_facts policy facts

-- Where an evaluation is owed, the state is the initial one, or an evaluation has just led there.
abbrev pub OwedAreFresh : Type 0
OwedAreFresh = (policy : Policy) → HoldsAfterSteps policy (λ s. s.owed ≡ true → (s.current ≡ policy.initial) ⊎ IsFreshIn policy s)
