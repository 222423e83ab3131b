-- The headline, for every byte string that `verify` accepts and every list of steps. No step traps. Each step runs at most the image's stated instructions, within its stated stack and frames. It queues at most its stated number of commands, all from its table, and leaves a state of its list. States and replies are those of the machine's table. `Busy` comes only if the queue lacks that stated room, and changes nothing.
-- `StepKeeps` is the headline of one step, part by part, and `Headline` is the law. Handler runs are defined in HeadlineParts, steps and replies in Steps, and behaviours in Machine.
use Rattle.std.specs.Prelude.{ℕ, ◌≡◌, ◌≢◌, ◌-◌, ◌<◌, ◌≤◌, List, [], ◌∷◌, length, All, IfSome}
use Rattle.ifs_image.specs.declared.parts.ImageParts.{ImageParts}
use Rattle.ifs_image.specs.Limits.{Fits}
use Rattle.ifs_image.specs.Spelling.{Spells}
use Rattle.ifs_verify.specs.Accepted.{IsAccepted}
use Rattle.ifs_machine.specs.Run.{IsCommand}
use Rattle.ifs_core.specs.declared.step.Step.{Step}
use Rattle.ifs_core.specs.declared.step.Reply.TheVariants.{Busy}
use Rattle.ifs_core.specs.Event.{Behaviour}
use Rattle.ifs_core.specs.Machine.{IsBehaviour}
use Rattle.ifs_core.specs.Gateway.{IsListed, IsReplyOf, IsStateOf, Known, IsKnownOf, opening_of, opened}
use Rattle.ifs_core.specs.Steps.{CoreState, Turn, cost_told, commands_told}
use Rattle.ifs_core.specs.Steps.{state_told, ChangesNothing, turn, after_steps}
use Rattle.ifs_core.specs.HeadlineParts.{IsRun, IsWithinBudgets, EachRun, BothRuns, changed_by, RunAlike}

-- `verify` accepts the bytes and returns this image: they spell it, and it is accepted.
pub record IsVerified (bytes : List ℕ) (image : ImageParts) : Type 0 where
  pub spelled : Spells bytes image
  pub accepted : IsAccepted image

-- The headline of a step from a state: of its reply and of the state afterwards.
pub record StepKeeps (image : ImageParts) (s : CoreState) (step : Step) (t : Turn) : Type 0 where
  -- the image's handlers do what their runs on the machine's table do
  pub behaviour : (b : Behaviour) × IsBehaviour image b
  -- it does not trap: each handler that it may run ends on the machine's table
  pub no_trap : (b : Behaviour) → IsBehaviour image b → EachRun (IsRun image b) b (changed_by step s.position)
  -- it runs at most the image's stated instructions,
  pub instructions : cost_told t.reply ≤ image.budgets.cost
  -- within its stated stack and frames,
  pub stack_and_frames : (b : Behaviour) → IsBehaviour image b → EachRun (IsWithinBudgets image) b (changed_by step s.position)
  -- queues at most its stated number of commands,
  pub commands : length (commands_told t.reply) ≤ image.budgets.commands
  -- all from its table,
  pub from_table : All (IsCommand image) (commands_told t.reply)
  -- and leaves a state of its list
  pub state_of_list : IsListed image t.next.position.current
  -- the reply and the state are those of the machine's table
  pub of_table : (b : Behaviour) → IsBehaviour image b → t ≡ turn b image.budgets.commands step s
  -- `Busy` comes only if the queue has fewer free places than the stated commands,
  pub busy : t.reply ≡ Busy → 64 - length s.queue < image.budgets.commands
  -- so never if it is empty,
  pub not_busy : s.queue ≡ [] → t.reply ≢ Busy
  -- and changes nothing, as any other refusal
  pub nothing : ChangesNothing t.reply → t.next ≡ s
  -- the state of the reply is that state
  pub told : IfSome (state_told t.reply) (λ state. state ≡ t.next.position.current)
  -- it is in the list, and a taken command is in the table
  pub named : IsReplyOf image t.reply
  -- the state afterwards is one of the image's run, as the state before
  pub next : IsStateOf image t.next

-- The headline of the opening, from what is known then.
pub record OpeningKeeps (image : ImageParts) (known : Known) (s : CoreState) : Type 0 where
  pub behaviour : (b : Behaviour) × IsBehaviour image b
  pub no_trap : (b : Behaviour) → IsBehaviour image b → BothRuns (IsRun image b) b image known
  pub instructions : (b : Behaviour) → IsBehaviour image b → (opening_of b image known).cost ≤ image.budgets.cost
  pub stack_and_frames : (b : Behaviour) → IsBehaviour image b → BothRuns (IsWithinBudgets image) b image known
  pub commands : length s.queue ≤ image.budgets.commands
  pub from_table : All (IsCommand image) s.queue
  pub state_of_list : IsListed image s.position.current
  pub of_table : (b : Behaviour) → IsBehaviour image b → s ≡ opened b image known
  pub state : IsStateOf image s

-- The headline of each step of a list.
abbrev pub StepsKeep : ImageParts → Behaviour → List Step → CoreState → Type 0
StepsKeep image b [] s = Unit {0}
StepsKeep image b (step ∷ steps) s = StepKeeps image s step (turn b image.budgets.commands step s) × StepsKeep image b steps (turn b image.budgets.commands step s).next

-- The headline of a run: of the opening and of each step of a list. The state afterwards is one of the image's run.
pub record RunKeeps (image : ImageParts) (known : Known) (b : Behaviour) (steps : List Step) : Type 0 where
  pub opening : OpeningKeeps image known (opened b image known)
  pub each : StepsKeep image b steps (opened b image known)
  pub state : IsStateOf image (after_steps b image.budgets.commands steps (opened b image known))

-- An image keeps the headline: its handlers have a behaviour on the machine's table, each list of steps has one run, which keeps it, and so does each step from any state of the image's run.
pub record IsKept (image : ImageParts) : Type 0 where
  pub behaviour : (b : Behaviour) × IsBehaviour image b
  pub runs : (b : Behaviour) → IsBehaviour image b → (known : Known) → IsKnownOf image known → (steps : List Step) → RunKeeps image known b steps
  pub one : (a b : Behaviour) → IsBehaviour image a → IsBehaviour image b → (known : Known) → IsKnownOf image known → (steps : List Step) → RunAlike image known a b steps
  pub anywhere : (b : Behaviour) → IsBehaviour image b → (s : CoreState) → IsStateOf image s → (step : Step) → StepKeeps image s step (turn b image.budgets.commands step s)

-- The image of every byte string that `verify` accepts keeps the headline.
abbrev pub Headline : Type 0
Headline = (bytes : List ℕ) (image : ImageParts) → IsVerified bytes image → IsKept image

-- Every accepted image within its limits keeps the headline.
abbrev pub AcceptedIsKept : Type 0
AcceptedIsKept = (image : ImageParts) → IsAccepted image → Fits image → IsKept image
