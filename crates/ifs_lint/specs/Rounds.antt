-- Rounds of states that a policy goes while no fact changes.
use Rattle.std.specs.Prelude.{ℕ, ◌≡◌, ◌==◌, Bool, true, false, List, [], ◌∷◌, ◌++◌, drop, take, Contains}
use Rattle.ifs_base.specs.declared.ids.StateId.{StateId}
use Rattle.ifs_core.specs.declared.step.Step.{Step}
use Rattle.ifs_core.specs.Gateway.{Known, nothing_known}
use Rattle.ifs_gen.specs.PolicyImage.{image_of}
use Rattle.ifs_gen.specs.Trees.{Policy}
use Rattle.ifs_solver.specs.Situations.{Situation, situation_after}
use Rattle.ifs_claims.specs.Changes.{World, AgreesWith, AllKeepTo}

-- A state and those that are entered after it, unless it was entered before.
abbrev pub entered_first : Bool → StateId → List StateId → List StateId
entered_first true state states = states
entered_first false state states = state ∷ states

-- The states that further steps enter, in order, by the situations after all of them.
abbrev pub entered_of : (List Step → Situation) → List Step → List Step → List StateId
entered_of situation begun [] = []
entered_of situation begun (step ∷ steps) =
    entered_first ((situation (begun ++ step ∷ [])).current.0 == (situation begun).current.0) (situation (begun ++ step ∷ [])).current (entered_of situation (begun ++ step ∷ []) steps)

-- The same of a policy's run.
abbrev pub entered : Policy → Known → List Step → List Step → List StateId
entered policy known begun steps = entered_of (situation_after policy known) begun steps

-- States lead back to one: it is the last of them, and none of those before.
pub record LeadBack (home : StateId) (states : List StateId) : Type 0 where
  pub others : List StateId
  pub last : states ≡ others ++ home ∷ []
  pub first_time : ¬ Contains others home

-- Further steps go a round twice: they keep to the world in which they begin, and enter these states, which lead back, and the same once more.
pub record GoTwice (policy : Policy) (known : Known) (begun steps : List Step) (world : World) (states : List StateId) : Type 0 where
  pub agrees : AgreesWith policy world (situation_after policy known begun).facts
  pub keeps : AllKeepTo world steps
  pub back : LeadBack (situation_after policy known begun).current states
  pub twice : entered policy known begun steps ≡ states ++ states

-- A policy goes a round: some steps lead there from an opening at which nothing is known, and further ones go it twice.
pub record GoesRound (policy : Policy) (states : List StateId) : Type 0 where
  pub begun : List Step
  pub steps : List Step
  pub world : World
  pub goes : GoTwice policy (nothing_known (image_of policy)) begun steps world states

-- The same states in the same order, from another one on.
abbrev pub IsToldFrom : List StateId → List StateId → Type 0
IsToldFrom states told = (k : ℕ) × (told ≡ drop k states ++ take k states)

-- A policy goes a round of these states, from whichever on.
abbrev pub IsRound : Policy → List StateId → Type 0
IsRound policy told = (states : List StateId) × IsToldFrom states told × GoesRound policy states
