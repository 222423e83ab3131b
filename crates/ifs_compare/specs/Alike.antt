-- Policies that do the same, and their runs.
use Rattle.std.specs.Prelude.{ℕ, ◌≡◌, ◌&&◌, ◌==◌, Bool, List, length, map, Some, slice_get}
use Rattle.ifs_base.specs.Facts.{Facts}
use Rattle.ifs_base.specs.declared.ids.StateId.{StateId}
use Rattle.ifs_core.specs.declared.step.Step.{Step}
use Rattle.ifs_core.specs.Event.{Behaviour}
use Rattle.ifs_core.specs.Machine.{IsBehaviour}
use Rattle.ifs_core.specs.Gateway.{Known, IsKnownOf, opened}
use Rattle.ifs_core.specs.Steps.{replies, after_steps}
use Rattle.ifs_gen.specs.Trees.{Part, Policy}
use Rattle.ifs_gen.specs.PlainSizes.{mask_of_part, room_of, CodeFits}
use Rattle.ifs_gen.specs.PolicyImage.{image_of}
use Rattle.ifs_gen.specs.Events.{behaviour_of, policy_opened, reply_without_cost}
use Rattle.ifs_policy.specs.Fits.{PolicyFits}
use Rattle.ifs_policy.specs.Meaning.{init_yield}
use Rattle.ifs_solver.specs.declared.fact_sets.Scope.{Scope}
use Rattle.ifs_solver.specs.FactSets.{AreFactsOf, scope_of}
use Rattle.ifs_solver.specs.Reaching.{evaluation_yield}
use Rattle.ifs_solver.specs.Situations.{IsKnownFor}
use Rattle.ifs_compare.specs.declared.answers.Compared.{Compared}
use Rattle.ifs_compare.specs.Renumbering.{HaveSameNames, renumbered}

-- Two parts do the same apart from evaluations: under all facts their inits have the same commands and wishes, and the same tests are active.
pub record ArePartsAlike (scope : Scope) (one other : Part) : Type 0 where
  pub init : (facts : Facts) → AreFactsOf scope facts → init_yield facts one.init ≡ init_yield facts other.init
  pub active : mask_of_part scope.tests one ≡ mask_of_part scope.tests other

-- A state does the same in two policies, whose parts outside any state are given: its parts do apart from evaluations, and under all facts evaluations in it run the same commands and lead to the same state.
pub record IsStateAlike (scope : Scope) (state : StateId) (always of_other : Part) (one other : Part) : Type 0 where
  pub part : ArePartsAlike scope one other
  pub evaluation : (facts : Facts) → AreFactsOf scope facts → evaluation_yield state always.body one.body facts ≡ evaluation_yield state of_other.body other.body facts

-- All states do the same.
pub record AreStatesAlike (scope : Scope) (always of_other : Part) (old new : List Part) : Type 0 where
  pub count : length old ≡ length new
  pub each : (state : StateId) (one other : Part) → slice_get old state.0 ≡ Some one → slice_get new state.0 ≡ Some other → IsStateAlike scope state always of_other one other

-- Two policies with the same tables do the same: they begin in the same state, and so do the parts outside any state, and each state of the first one. Its numbers refer to states that it has.
pub record AreAlike (old new : Policy) : Type 0 where
  pub fits : PolicyFits old
  pub tables : old.tables ≡ new.tables
  pub initial : old.initial ≡ new.initial
  pub always : ArePartsAlike (scope_of old) old.always new.always
  pub states : AreStatesAlike (scope_of old) old.always new.always old.states new.states

-- A policy is the same as another one: they have the same names, with the other's numbers it does the same, and the greatest number of commands of an event is the same.
pub record IsTheSame (old new : Policy) : Type 0 where
  pub names : HaveSameNames old.tables new.tables
  pub alike : AreAlike old (renumbered old.tables new)
  pub room : room_of old ≡ room_of new

-- No difference was found, and nothing was left undecided.
abbrev pub is_same : Compared → Bool
is_same compared = (length compared.differences.items == 0) && (length compared.undecided.items == 0)

-- Two policies have the same replies to some steps, and the same state after them, if an event has this room.
pub record HaveSameRun (old new : Policy) (known : Known) (room : ℕ) (steps : List Step) : Type 0 where
  pub replies : replies (behaviour_of old) room steps (policy_opened old known) ≡ replies (behaviour_of new) room steps (policy_opened new known)
  pub state : after_steps (behaviour_of old) room steps (policy_opened old known) ≡ after_steps (behaviour_of new) room steps (policy_opened new known)

-- Policies that do the same have the same run, whatever is known at the opening and for every list of steps.
abbrev pub AlikeRunTheSame : Type 0
AlikeRunTheSame = (old new : Policy) → AreAlike old new → (known : Known) → IsKnownFor old known → (room : ℕ) (steps : List Step) → HaveSameRun old new known room steps

-- Cores that are opened on the images of two such policies have the same replies, apart from costs, if both images state the same number of commands of an event.
abbrev pub AlikeCoresReplyTheSame : Type 0
AlikeCoresReplyTheSame =
    (old new : Policy) → PolicyFits old → CodeFits old → PolicyFits new → CodeFits new → AreAlike old new → room_of old ≡ room_of new
    → (a b : Behaviour) → IsBehaviour (image_of old) a → IsBehaviour (image_of new) b → (known : Known) → IsKnownOf (image_of old) known → (steps : List Step)
    → map reply_without_cost (replies a (room_of old) steps (opened a (image_of old) known)) ≡ map reply_without_cost (replies b (room_of new) steps (opened b (image_of new) known))
