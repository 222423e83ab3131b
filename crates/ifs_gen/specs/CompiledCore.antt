-- Compiled policies mean what they say: a core that is opened on the image of a text runs the text's one policy. For every list of steps its replies and states are those of a run over the policy's own events, apart from costs. Its names and texts are those of the policy. The only assumption is that no allocation failed.
-- `RunsText` is that sentence, part by part. The next file to read is Compiled, which names the files after it. Steps and replies are defined in Steps of `ifs_core`.
use Rattle.std.specs.Prelude.{ℕ, ◌≡◌, List, [], ◌∷◌, map}
use Rattle.ifs_policy.specs.Texts.{HasPolicy}
use Rattle.ifs_image.specs.declared.parts.ImageParts.{ImageParts}
use Rattle.ifs_core.specs.declared.step.Step.{Step}
use Rattle.ifs_core.specs.declared.step.Reply.{Reply}
use Rattle.ifs_core.specs.Event.{Behaviour}
use Rattle.ifs_core.specs.Machine.{IsBehaviour}
use Rattle.ifs_core.specs.Gateway.{OpenCore, Known, nothing_known}
use Rattle.ifs_core.specs.Steps.{CoreState, Makes, turn, replies, after_steps}
use Rattle.ifs_core.specs.Headline.{IsKept}
use Rattle.ifs_gen.specs.Trees.{Policy}
use Rattle.ifs_gen.specs.PlainSizes.{room_of, CodeFits}
use Rattle.ifs_gen.specs.PolicyImage.{image_of}
use Rattle.ifs_gen.specs.Events.{behaviour_of, policy_opened, reply_without_cost, state_without_costs}
use Rattle.ifs_gen.specs.Compiled.{HasNamesOf}

-- A core of an image makes these steps in order, with these replies, and goes from one state to the other. Each step is as the contract of `Core::step` says.
abbrev pub LeadsTo : ImageParts → List Step → List Reply → CoreState → CoreState → Type 0
LeadsTo image [] [] before after = after ≡ before
LeadsTo image (step ∷ steps) (reply ∷ replies) before after =
    (next : CoreState) × ((b : Behaviour) → IsBehaviour image b → Makes (turn b image.budgets.commands step before) reply next) × LeadsTo image steps replies next after
LeadsTo image _ _ before after = ⊥

-- The replies and the state after the steps are those of the policy's own run, apart from costs, from this knowledge at the opening.
pub record IsRunOf (policy : Policy) (known : Known) (steps : List Step) (replied : List Reply) (after : CoreState) : Type 0 where
  pub replies_are : map reply_without_cost replied ≡ replies (behaviour_of policy) (room_of policy) steps (policy_opened policy known)
  pub state_is : state_without_costs after ≡ after_steps (behaviour_of policy) (room_of policy) steps (policy_opened policy known)

-- A core that was opened with this knowledge runs the one policy of a text.
pub record RunsText (text : List ℕ) (defs : List (List ℕ × List ℕ)) (known : Known) (core : OpenCore) : Type 0 where
  pub policy : Policy
  -- the text has this policy and no other
  pub of_text : HasPolicy text defs policy
  pub one : (other : Policy) → HasPolicy text defs other → other ≡ policy
  -- its code keeps the limits
  pub code : CodeFits policy
  -- the core has its image, which keeps the promises of accepted images
  pub image_is : core.image ≡ image_of policy
  pub kept : IsKept core.image
  -- its readers return the policy's names and texts
  pub names : HasNamesOf policy core.image
  -- it is busy if its queue lacks the policy's room
  pub room : core.image.budgets.commands ≡ room_of policy
  -- it is in the state of the policy's opening, apart from costs
  pub opening : state_without_costs core.state ≡ policy_opened policy known
  -- for all steps from here, the replies and the state after them are those of the policy
  pub runs : (steps : List Step) (replied : List Reply) (after : CoreState) → LeadsTo core.image steps replied core.state after → IsRunOf policy known steps replied after

-- These replies to steps are those of a text's one policy, apart from costs, from an opening at which nothing is known.
pub record RepliesAsText (text : List ℕ) (defs : List (List ℕ × List ℕ)) (steps : List Step) (replied : List Reply) : Type 0 where
  pub policy : Policy
  pub of_text : HasPolicy text defs policy
  pub one : (other : Policy) → HasPolicy text defs other → other ≡ policy
  pub replies_are : map reply_without_cost replied ≡ replies (behaviour_of policy) (room_of policy) steps (policy_opened policy (nothing_known (image_of policy)))
