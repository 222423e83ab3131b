-- Levels: what the commands that were run so far add up to.
use Rattle.std.specs.Prelude.{ℕ, ◌≡◌, ◌&&◌, Bool, true, List, [], ◌∷◌, ◌++◌, None, IsTrue, ℤ}
use Rattle.std.specs.Option.{option_to_list}
use Rattle.ifs_base.specs.Facts.{Facts}
use Rattle.ifs_base.specs.declared.ids.CommandId.{CommandId}
use Rattle.ifs_base.specs.declared.ids.StateId.{StateId}
use Rattle.ifs_core.specs.declared.step.Step.{Step}
use Rattle.ifs_core.specs.Event.{Behaviour}
use Rattle.ifs_core.specs.Machine.{IsBehaviour}
use Rattle.ifs_core.specs.Gateway.{Known, IsKnownOf, opened}
use Rattle.ifs_core.specs.Steps.{CoreState, commands_told, command_taken, turn}
use Rattle.ifs_gen.specs.Trees.{Policy}
use Rattle.ifs_gen.specs.PlainSizes.{room_of, CodeFits}
use Rattle.ifs_gen.specs.PolicyImage.{image_of}
use Rattle.ifs_gen.specs.Events.{behaviour_of, policy_opened}
use Rattle.ifs_policy.specs.Fits.{PolicyFits}
use Rattle.ifs_solver.specs.Asking.{Guard, is_met}
use Rattle.ifs_solver.specs.FactSets.{AreFactsOf, scope_of}
use Rattle.ifs_solver.specs.Situations.{Situation, situation_of, situation_after, IsKnownFor, leads_to, evaluated}
use Rattle.ifs_claims.specs.Claims.{IsSettled}
use Rattle.ifs_claims.specs.Moves.{commands_of, state_after}
use Rattle.ifs_levels.specs.Metering.{Meter, changed, level_by}

-- The commands that steps queue, in order.
abbrev pub queued_from : Behaviour → ℕ → List Step → CoreState → List CommandId
queued_from b room [] s = []
queued_from b room (step ∷ steps) s = commands_told (turn b room step s).reply ++ queued_from b room steps (turn b room step s).next

-- The commands that steps take, in order.
abbrev pub taken_from : Behaviour → ℕ → List Step → CoreState → List CommandId
taken_from b room [] s = []
taken_from b room (step ∷ steps) s = option_to_list (command_taken (turn b room step s).reply) ++ taken_from b room steps (turn b room step s).next

-- The commands that an opening and steps after it queue.
abbrev pub queued_after : Policy → Known → List Step → List CommandId
queued_after policy known steps = (policy_opened policy known).queue ++ queued_from (behaviour_of policy) (room_of policy) steps (policy_opened policy known)

-- The commands that steps after an opening take, so that they are run.
abbrev pub run_after : Policy → Known → List Step → List CommandId
run_after policy known steps = taken_from (behaviour_of policy) (room_of policy) steps (policy_opened policy known)

-- What was run, and then what is in the queue, is what was queued.
abbrev pub RunsInOrder : Type 0
RunsInOrder = (policy : Policy) (known : Known) (steps : List Step) → run_after policy known steps ++ (state_after policy known steps).queue ≡ queued_after policy known steps

-- The level once all that was queued is run, from a level at the opening.
abbrev pub level_after : Policy → Meter → ℤ → Known → List Step → ℤ
level_after policy meter begun known steps = level_by meter begun (queued_after policy known steps)

-- The level by what was run so far.
abbrev pub level_now : Policy → Meter → ℤ → Known → List Step → ℤ
level_now policy meter begun known steps = level_by meter begun (run_after policy known steps)

-- It holds of the situation and the level, whatever is known at the opening, and after any steps.
abbrev pub HoldsWithLevel : Policy → Meter → ℤ → (Situation → ℤ → Type 0) → Type 0
HoldsWithLevel policy meter begun P = (known : Known) → IsKnownFor policy known → (steps : List Step) → P (situation_after policy known steps) (level_after policy meter begun known steps)

-- A set of situations with levels has the openings, and with each of them all that an evaluation makes of its state and its level under any facts.
pub record IsClosedWithLevel (policy : Policy) (meter : Meter) (begun : ℤ) (set : Situation → ℤ → Bool) : Type 0 where
  pub opening : (known : Known) → IsKnownFor policy known → IsTrue (set (situation_of (policy_opened policy known).position) (level_by meter begun (policy_opened policy known).queue))
  pub evaluation : (s : Situation) (level : ℤ) → IsTrue (set s level) → (facts : Facts) → AreFactsOf (scope_of policy) facts
      → IsTrue (set (evaluated policy facts s.current) (level_by meter level (commands_of policy facts s.current)))

-- Such a set has every situation and level that steps lead to.
abbrev pub LevelsClosed : Type 0
LevelsClosed = (policy : Policy) (meter : Meter) (begun : ℤ) (set : Situation → ℤ → Bool) → IsClosedWithLevel policy meter begun set → HoldsWithLevel policy meter begun (λ s level. IsTrue (set s level))

-- The levels at an opening: a first one, and if a reload keeps the level, what any run of the same policy has left.
pub data MayBegin (policy : Policy) (meter : Meter) (keeps : Bool) (first : ℤ) : ℤ → Type 0 where
  at_first : MayBegin policy meter keeps first first
  again : keeps ≡ true → (begun : ℤ) → MayBegin policy meter keeps first begun → (known : Known) → IsKnownFor policy known → (steps : List Step)
      → MayBegin policy meter keeps first (level_after policy meter begun known steps)

-- It holds of the situation and the level, from each opening.
abbrev pub HoldsFromOpenings : Policy → Meter → Bool → ℤ → (Situation → ℤ → Type 0) → Type 0
HoldsFromOpenings policy meter keeps first P = (begun : ℤ) → MayBegin policy meter keeps first begun → HoldsWithLevel policy meter begun P

-- A closed set has, with each level that a reload keeps, an opening at that level.
pub record IsClosedFromOpenings (policy : Policy) (meter : Meter) (keeps : Bool) (first : ℤ) (set : Situation → ℤ → Bool) : Type 0 where
  pub closed : IsClosedWithLevel policy meter first set
  pub again : keeps ≡ true → (s : Situation) (level : ℤ) → IsTrue (set s level) → (known : Known) → IsKnownFor policy known
      → IsTrue (set (situation_of (policy_opened policy known).position) (level_by meter level (policy_opened policy known).queue))

-- Such a set has every situation and level that steps lead to, from each opening.
abbrev pub LevelsClosedFromOpenings : Type 0
LevelsClosedFromOpenings =
    (policy : Policy) (meter : Meter) (keeps : Bool) (first : ℤ) (set : Situation → ℤ → Bool) → IsClosedFromOpenings policy meter keeps first set
    → HoldsFromOpenings policy meter keeps first (λ s level. IsTrue (set s level))

-- While a situation is settled in this state and the guard is met, the level is in a range.
abbrev pub IsLevelAtRest : Policy → StateId → Guard → (ℤ → Bool) → Situation → ℤ → Type 0
IsLevelAtRest policy state guard range s level = IsSettled policy s → s.current ≡ state → is_met s.facts guard ≡ true → range level ≡ true

-- A policy rests in a state with a level in a range while a guard is met.
abbrev pub RestsWithLevel : Policy → Meter → Bool → ℤ → StateId → Guard → (ℤ → Bool) → Type 0
RestsWithLevel policy meter keeps first state guard range = HoldsFromOpenings policy meter keeps first (IsLevelAtRest policy state guard range)

-- A set has this situation and level, and it is one of rest: it is settled, and an evaluation leads to no other state.
pub record IsRestOf (policy : Policy) (set : Situation → ℤ → Bool) (s : Situation) (level : ℤ) : Type 0 where
  pub within : IsTrue (set s level)
  pub settled : IsSettled policy s
  pub stays : leads_to policy s.facts s.current ≡ None

-- If each rest of a closed set in a state has a level in a range while a guard is met, the policy rests so.
abbrev pub LevelsRestWithin : Type 0
LevelsRestWithin =
    (policy : Policy) (meter : Meter) (keeps : Bool) (first : ℤ) (set : Situation → ℤ → Bool) (state : StateId) (guard : Guard) (range : ℤ → Bool) → IsClosedFromOpenings policy meter keeps first set
    → ((s : Situation) (level : ℤ) → IsRestOf policy set s level → s.current ≡ state → is_met s.facts guard ≡ true → range level ≡ true) → RestsWithLevel policy meter keeps first state guard range

-- After any steps the level by what was run is in a range.
abbrev pub StaysWithin : Policy → Meter → Bool → ℤ → (ℤ → Bool) → Type 0
StaysWithin policy meter keeps first range =
    (begun : ℤ) → MayBegin policy meter keeps first begun → (known : Known) → IsKnownFor policy known → (steps : List Step) → range (level_now policy meter begun known steps) ≡ true

-- A level, and each that some commands make of it one after the other, is in a range.
abbrev pub stays_by : Meter → (ℤ → Bool) → ℤ → List CommandId → Bool
stays_by meter range level [] = range level
stays_by meter range level (command ∷ commands) = range level && stays_by meter range (changed (meter command) level) commands

-- Each level that some commands make of one, one after the other, is in a range.
abbrev pub stays_on : Meter → (ℤ → Bool) → ℤ → List CommandId → Bool
stays_on meter range level [] = true
stays_on meter range level (command ∷ commands) = range (changed (meter command) level) && stays_on meter range (changed (meter command) level) commands

-- From a closed set, no command of an opening or of an evaluation leads out of a range.
pub record IsWithin (policy : Policy) (meter : Meter) (keeps : Bool) (first : ℤ) (range : ℤ → Bool) (set : Situation → ℤ → Bool) : Type 0 where
  pub closed : IsClosedFromOpenings policy meter keeps first set
  pub opening : (known : Known) → IsKnownFor policy known → stays_by meter range first (policy_opened policy known).queue ≡ true
  pub again : keeps ≡ true → (s : Situation) (level : ℤ) → IsTrue (set s level) → (known : Known) → IsKnownFor policy known → stays_by meter range level (policy_opened policy known).queue ≡ true
  pub evaluation : (s : Situation) (level : ℤ) → IsTrue (set s level) → (facts : Facts) → AreFactsOf (scope_of policy) facts → stays_by meter range level (commands_of policy facts s.current) ≡ true

-- Then the level by what was run stays in the range.
abbrev pub LevelsStayWithin : Type 0
LevelsStayWithin =
    (policy : Policy) (meter : Meter) (keeps : Bool) (first : ℤ) (range : ℤ → Bool) (set : Situation → ℤ → Bool) → IsWithin policy meter keeps first range set → StaysWithin policy meter keeps first range

-- The commands that a core opened on the policy's image has queued.
abbrev pub queued_after_core : Policy → Behaviour → Known → List Step → List CommandId
queued_after_core policy b known steps = (opened b (image_of policy) known).queue ++ queued_from b (room_of policy) steps (opened b (image_of policy) known)

-- A core on the image of a policy has queued the same commands, so each level is the same.
abbrev pub LevelsCarryOver : Type 0
LevelsCarryOver =
    (policy : Policy) → PolicyFits policy → CodeFits policy → (b : Behaviour) → IsBehaviour (image_of policy) b → (known : Known) → IsKnownOf (image_of policy) known
    → (steps : List Step) → queued_after_core policy b known steps ≡ queued_after policy known steps
