-- Runs of a policy's code on the machine: conditions, blocks and handlers.
use Rattle.std.specs.Prelude.{ℕ, ◌≡◌, ◌+◌, ◌≤◌, if◌then◌else◌, List, [], ◌∷◌, length, Some, slice_get}
use Rattle.ifs_base.specs.Facts.{Facts}
use Rattle.ifs_base.specs.Effects.{Effects, followed}
use Rattle.ifs_base.specs.declared.ids.TestId.{TestId}
use Rattle.ifs_base.specs.declared.op.Op.{Op}
use Rattle.ifs_image.specs.declared.parts.ImageParts.{ImageParts}
use Rattle.ifs_image.specs.Code.{code_of, results_of}
use Rattle.ifs_machine.specs.declared.value.Value.{Value}
use Rattle.ifs_machine.specs.declared.value.Value.TheVariants.{Truth}
use Rattle.ifs_machine.specs.Table.{Frame, Outcome, GoesOn, height}
use Rattle.ifs_machine.specs.Run.{after_rows, RunsTo, AreFactsOf}
use Rattle.ifs_policy.specs.Fits.{Sizes, ConditionFits, BlockFits}
use Rattle.ifs_gen.specs.Trees.{Condition, Block, Done, RunThen, SetStateThen, IfThen}
use Rattle.ifs_policy.specs.Meaning.{truth, is_open, is_held, reached, body_yield, init_yield}
use Rattle.ifs_gen.specs.PlainCode.{Coder, plain_coder, block_code, code_size, block_height}
use Rattle.ifs_gen.specs.PlainCode.{block_runs, holding, body_code, init_code}
use Rattle.ifs_gen.specs.Sharing.{shared_coder}
use Rattle.ifs_gen.specs.PolicyImage.{shared_routine}

-- The number of entries of each table of an image.
abbrev pub image_sizes : ImageParts → Sizes
image_sizes image = record { interfaces = length image.interfaces; tests = length image.tests; commands = length image.commands; states = length image.states }

-- A code has these instructions from a place on.
abbrev pub HasAt : List Op → ℕ → List Op → Type 0
HasAt code place [] = Unit {0}
HasAt code place (op ∷ ops) = (slice_get code place ≡ Some op) × HasAt code (place + 1) ops

-- A point of a run of a routine: its place, its values, and the effects of the event so far.
pub record Point : Type 0 where
  pub place : ℕ
  pub values : List Value
  pub effects : Effects

-- The point with these parts.
abbrev pub point : ℕ → List Value → Effects → Point
point place values effects = record { place = place; values = values; effects = effects }

-- The machine at a point of a routine, above these callers.
abbrev pub at_point : ℕ → List Frame → Point → Outcome
at_point routine callers p = GoesOn (record { frame = record { routine = routine; place = p.place; values = p.values }; callers = callers; effects = p.effects })

-- This many rows of the table lead from one point of a routine to another.
pub record RowsLead (image : ImageParts) (facts : Facts) (routine : ℕ) (callers : List Frame) (from : Point) (rows : ℕ) (to : Point) : Type 0 where
  pub runs : after_rows image facts rows (at_point routine callers from) ≡ at_point routine callers to

-- The stack has room for this many more values above these and those of the callers.
abbrev pub HasStack : ImageParts → List Frame → List Value → ℕ → Type 0
HasStack image callers values more = more + length values + height callers ≤ image.budgets.stack

-- There may be this many frames above these callers, with the current one.
abbrev pub HasFrames : ImageParts → List Frame → ℕ → Type 0
HasFrames image callers frames = length callers + frames ≤ image.budgets.frames

-- The code of each condition has its size, and needs stack for a value and a frame. Anywhere in a routine it runs to its end and leaves the condition's truth on the stack.
pub record Computes (image : ImageParts) (facts : Facts) (coder : Coder) : Type 0 where
  pub sized : (condition : Condition) → length (coder.code condition) ≡ coder.size condition
  pub high : (condition : Condition) → 1 ≤ coder.height condition
  pub framed : 1 ≤ coder.frames
  pub leads : (condition : Condition) (routine : ℕ) (callers : List Frame) (place : ℕ) (values : List Value) (effects : Effects)
      → ConditionFits (image_sizes image) condition → HasAt (code_of image routine) place (coder.code condition) → HasStack image callers values (coder.height condition) → HasFrames image callers coder.frames
      → RowsLead image facts routine callers (point place values effects) (coder.cost condition) (point (place + coder.size condition) (Truth (truth facts condition) ∷ values) effects)

-- The plain code of conditions computes their truth, on every image and under all facts for it.
abbrev pub TruthRuns : Type 0
TruthRuns = (image : ImageParts) (facts : Facts) → AreFactsOf image facts → Computes image facts plain_coder

-- An image has the routine of each shared code at the number of the code.
abbrev pub HasShared : ImageParts → List (List Op) → Type 0
HasShared image table = (k : ℕ) (code : List Op) → slice_get table k ≡ Some code → slice_get image.routines k ≡ Some (shared_routine code)

-- Code that calls shared conditions computes their truth, on every image with their routines.
abbrev pub SharedTruthRuns : Type 0
SharedTruthRuns = (image : ImageParts) (facts : Facts) (table : List (List Op)) → AreFactsOf image facts → HasShared image table → Computes image facts (shared_coder table)

-- The number of instructions that a block executes.
abbrev pub block_cost : Coder → Facts → Block → ℕ
block_cost coder facts Done = 0
block_cost coder facts (RunThen command rest) = 2 + block_cost coder facts rest
block_cost coder facts (SetStateThen state rest) = 2 + block_cost coder facts rest
block_cost coder facts (IfThen condition inner rest) =
    coder.cost condition + 1 + (if truth facts condition then block_cost coder facts inner else 0) + block_cost coder facts rest

-- A block runs to its end, with the effects that it reaches.
abbrev pub BlockRuns : Type 0
BlockRuns = (image : ImageParts) (facts : Facts) (coder : Coder) (routine : ℕ) (callers : List Frame) (block : Block) (place : ℕ) (values : List Value) (effects : Effects)
    → Computes image facts coder → BlockFits (image_sizes image) block → HasAt (code_of image routine) place (block_code coder place block)
    → HasStack image callers values (block_height coder block) → HasFrames image callers coder.frames → length effects.commands + block_runs block ≤ image.budgets.commands
    → RowsLead image facts routine callers (point place values effects) (block_cost coder facts block) (point (place + code_size coder block) values (followed effects (reached facts block)))

-- The number of instructions that decide whether a body is held back.
abbrev pub held_cost : Facts → List TestId → ℕ
held_cost facts [] = 0
held_cost facts (test ∷ tests) = 2 + (if is_open facts test then 0 else held_cost facts tests)

-- The number of instructions that a body executes.
abbrev pub body_cost : Coder → ℕ → Facts → Block → ℕ
body_cost coder count facts body = held_cost facts (holding count body) + (if is_held facts body then 0 else block_cost coder facts body) + 1

-- The number of instructions that an init executes.
abbrev pub init_cost : Coder → Facts → Block → ℕ
init_cost coder facts init = block_cost coder facts init + 1

-- A routine without results has this code. The image states enough frames, stack and commands for a block, after `queued` commands.
pub record IsHandlerOf (image : ImageParts) (coder : Coder) (routine : ℕ) (code : List Op) (block : Block) (queued : ℕ) : Type 0 where
  pub listed : code_of image routine ≡ code
  pub results : results_of image routine ≡ []
  pub frames : coder.frames ≤ image.budgets.frames
  pub stack : block_height coder block ≤ image.budgets.stack
  pub commands : queued + block_runs block ≤ image.budgets.commands
  pub fits : BlockFits (image_sizes image) block

-- On the machine, the handlers of a policy have the effects of their yields, at a cost that the facts determine.
pub record HandlersRun (image : ImageParts) (facts : Facts) (coder : Coder) : Type 0 where
  pub body : (routine : ℕ) (block : Block) (before : Effects)
      → IsHandlerOf image coder routine (body_code coder (length image.tests) block) block (length before.commands)
      → RunsTo image facts routine before (body_cost coder (length image.tests) facts block) (followed before (body_yield facts block))
  pub init : (routine : ℕ) (block : Block) (before : Effects)
      → IsHandlerOf image coder routine (init_code coder block) block (length before.commands)
      → RunsTo image facts routine before (init_cost coder facts block) (followed before (init_yield facts block))

-- This holds on every image and under all facts for it.
abbrev pub HandlersDo : Type 0
HandlersDo = (image : ImageParts) (facts : Facts) (coder : Coder) → AreFactsOf image facts → Computes image facts coder → HandlersRun image facts coder
