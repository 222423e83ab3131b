-- Claims on a policy: what holds whatever is known at an opening, and after any steps.
use Rattle.std.specs.Prelude.{◌≡◌, ◌≢◌, ◌==◌, Bool, true, false, List, [], ◌∷◌, ◌++◌, Some, slice_get, Contains}
use Rattle.std.specs.List.{list_any}
use Rattle.ifs_base.specs.declared.ids.CommandId.{CommandId}
use Rattle.ifs_base.specs.declared.ids.StateId.{StateId}
use Rattle.ifs_core.specs.declared.step.Step.{Step}
use Rattle.ifs_core.specs.Event.{Behaviour}
use Rattle.ifs_core.specs.Machine.{IsBehaviour}
use Rattle.ifs_core.specs.Gateway.{Known, IsKnownOf, opened}
use Rattle.ifs_core.specs.Steps.{after_steps, commands_told, turn}
use Rattle.ifs_gen.specs.Trees.{Part, Policy}
use Rattle.ifs_gen.specs.PlainSizes.{room_of, CodeFits}
use Rattle.ifs_gen.specs.PolicyImage.{image_of}
use Rattle.ifs_policy.specs.Fits.{PolicyFits}
use Rattle.ifs_policy.specs.Meaning.{IsHeld}
use Rattle.ifs_gen.specs.Events.{policy_opened}
use Rattle.ifs_solver.specs.Situations.{Situation, situation_of, IsKnownFor, HoldsAfterSteps, situation_after}
use Rattle.ifs_solver.specs.Asking.{Guard, is_met}
use Rattle.ifs_claims.specs.Moves.{seen, queued_by}

-- The policy does not rest: nothing is owed in this state only while the guard is not met.
abbrev pub IsNoRest : StateId → Guard → Situation → Type 0
IsNoRest state guard s = s.owed ≡ false → s.current ≡ state → is_met s.facts guard ≡ false

-- A policy never rests in a state while a guard is met.
abbrev pub NeverRests : Policy → StateId → Guard → Type 0
NeverRests policy state guard = HoldsAfterSteps policy (IsNoRest state guard)

-- In this state the guard is not met.
abbrev pub IsFalseIn : StateId → Guard → Situation → Type 0
IsFalseIn state guard s = s.current ≡ state → is_met s.facts guard ≡ false

-- At any moment, a guard is not met in a state.
abbrev pub NeverIn : Policy → StateId → Guard → Type 0
NeverIn policy state guard = HoldsAfterSteps policy (IsFalseIn state guard)

-- Nothing is owed, and neither the always body nor the body of the current state is held back.
pub record IsSettled (policy : Policy) (s : Situation) : Type 0 where
  pub owed : s.owed ≡ false
  pub always : ¬ IsHeld s.facts policy.always.body
  pub own : (part : Part) → slice_get policy.states s.current.0 ≡ Some part → ¬ IsHeld s.facts part.body

-- While a situation is settled in this state, the guard is not met.
abbrev pub IsUnsettled : Policy → StateId → Guard → Situation → Type 0
IsUnsettled policy state guard s = IsSettled policy s → s.current ≡ state → is_met s.facts guard ≡ false

-- A policy never settles in a state while a guard is met.
abbrev pub NeverSettles : Policy → StateId → Guard → Type 0
NeverSettles policy state guard = HoldsAfterSteps policy (IsUnsettled policy state guard)

-- While a situation is settled and the guard is met, the state is one of these.
abbrev pub IsRestIn : Policy → List StateId → Guard → Situation → Type 0
IsRestIn policy states guard s = IsSettled policy s → is_met s.facts guard ≡ true → Contains states s.current

-- A policy rests in one of these states while a guard is met.
abbrev pub RestsIn : Policy → List StateId → Guard → Type 0
RestsIn policy states guard = HoldsAfterSteps policy (IsRestIn policy states guard)

-- No step leads from one state to another.
abbrev pub NeverFrom : Policy → StateId → StateId → Type 0
NeverFrom policy state next =
    (known : Known) → IsKnownFor policy known → (steps : List Step) (step : Step) → (situation_after policy known steps).current ≡ state
    → (situation_after policy known (steps ++ step ∷ [])).current ≢ next

-- No step enters a state while a guard is met under the facts that the step sees.
abbrev pub NeverEntersWhile : Policy → StateId → Guard → Type 0
NeverEntersWhile policy next guard =
    (known : Known) → IsKnownFor policy known → (steps : List Step) (step : Step) → (situation_after policy known steps).current ≢ next
    → (situation_after policy known (steps ++ step ∷ [])).current ≡ next → is_met (seen step (situation_after policy known steps).facts) guard ≡ false

-- A command is among some.
abbrev pub queues : CommandId → List CommandId → Bool
queues command commands = list_any (λ other. other.0 == command.0) commands

-- Neither an opening nor a step queues a command while a guard is met, under the facts at the opening or under those that the step sees.
pub record NeverRuns (policy : Policy) (command : CommandId) (guard : Guard) : Type 0 where
  pub opening : (known : Known) → IsKnownFor policy known → queues command (policy_opened policy known).queue ≡ true → is_met (situation_after policy known []).facts guard ≡ false
  pub step : (known : Known) → IsKnownFor policy known → (steps : List Step) (step : Step) → queues command (queued_by policy known steps step) ≡ true
      → is_met (seen step (situation_after policy known steps).facts) guard ≡ false

-- The situation of a core that is opened on a policy's image, after some steps.
abbrev pub situation_of_core : Policy → Behaviour → Known → List Step → Situation
situation_of_core policy b known steps = situation_of (after_steps b (room_of policy) steps (opened b (image_of policy) known)).position

-- The commands that a further step of it queues.
abbrev pub queued_by_core : Policy → Behaviour → Known → List Step → Step → List CommandId
queued_by_core policy b known steps step = commands_told (turn b (room_of policy) step (after_steps b (room_of policy) steps (opened b (image_of policy) known))).reply

-- A core on the image of a policy is in the situation that the policy is in, after any steps, and has queued the same commands.
pub record IsCoreOf (policy : Policy) (b : Behaviour) (known : Known) : Type 0 where
  pub known_for : IsKnownFor policy known
  pub situation : (steps : List Step) → situation_of_core policy b known steps ≡ situation_after policy known steps
  pub opening : (opened b (image_of policy) known).queue ≡ (policy_opened policy known).queue
  pub queued : (steps : List Step) (step : Step) → queued_by_core policy b known steps step ≡ queued_by policy known steps step

-- No step of a core enters a state while a guard is met.
abbrev pub CoreNeverEntersWhile : Policy → Behaviour → Known → StateId → Guard → Type 0
CoreNeverEntersWhile policy b known next guard =
    (steps : List Step) (step : Step) → (situation_of_core policy b known steps).current ≢ next → (situation_of_core policy b known (steps ++ step ∷ [])).current ≡ next
    → is_met (seen step (situation_of_core policy b known steps).facts) guard ≡ false

-- Neither the opening of a core nor a step of it queues a command while a guard is met.
pub record CoreNeverRuns (policy : Policy) (b : Behaviour) (known : Known) (command : CommandId) (guard : Guard) : Type 0 where
  pub opening : queues command (opened b (image_of policy) known).queue ≡ true → is_met (situation_of_core policy b known []).facts guard ≡ false
  pub step : (steps : List Step) (step : Step) → queues command (queued_by_core policy b known steps step) ≡ true → is_met (seen step (situation_of_core policy b known steps).facts) guard ≡ false

-- It is so for each policy within the limits and each behaviour of its image.
abbrev pub CoresAreInSituations : Type 0
CoresAreInSituations =
    (policy : Policy) → PolicyFits policy → CodeFits policy → (b : Behaviour) → IsBehaviour (image_of policy) b → (known : Known) → IsKnownOf (image_of policy) known → IsCoreOf policy b known

-- A claim that holds of a policy holds of each core that is opened on its image.
pub record CarryOver (policy : Policy) (b : Behaviour) (known : Known) : Type 0 where
  pub never_rests : (state : StateId) (guard : Guard) → NeverRests policy state guard → (steps : List Step) → IsNoRest state guard (situation_of_core policy b known steps)
  pub never_in : (state : StateId) (guard : Guard) → NeverIn policy state guard → (steps : List Step) → IsFalseIn state guard (situation_of_core policy b known steps)
  pub never_settles : (state : StateId) (guard : Guard) → NeverSettles policy state guard → (steps : List Step) → IsUnsettled policy state guard (situation_of_core policy b known steps)
  pub rests_in : (states : List StateId) (guard : Guard) → RestsIn policy states guard → (steps : List Step) → IsRestIn policy states guard (situation_of_core policy b known steps)
  pub never_enters : (state : StateId) → HoldsAfterSteps policy (λ s. s.current ≢ state) → (steps : List Step) → (situation_of_core policy b known steps).current ≢ state
  pub never_from : (state next : StateId) → NeverFrom policy state next → (steps : List Step) (step : Step) → (situation_of_core policy b known steps).current ≡ state
      → (situation_of_core policy b known (steps ++ step ∷ [])).current ≢ next
  pub never_enters_while : (next : StateId) (guard : Guard) → NeverEntersWhile policy next guard → CoreNeverEntersWhile policy b known next guard
  pub never_runs : (command : CommandId) (guard : Guard) → NeverRuns policy command guard → CoreNeverRuns policy b known command guard

-- It is so for each policy within the limits and each behaviour of its image.
abbrev pub ClaimsCarryOver : Type 0
ClaimsCarryOver =
    (policy : Policy) → PolicyFits policy → CodeFits policy → (b : Behaviour) → IsBehaviour (image_of policy) b → (known : Known) → IsKnownOf (image_of policy) known → CarryOver policy b known
