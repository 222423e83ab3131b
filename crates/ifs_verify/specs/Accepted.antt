-- Acceptance: all rules, in the order of the checks.
use Rattle.std.specs.Prelude.{ℕ, ◌≤◌, List}
use Rattle.ifs_base.specs.declared.op.Kind.{Kind}
use Rattle.ifs_base.specs.declared.op.Op.{Op}
use Rattle.ifs_image.specs.declared.parts.ImageParts.{ImageParts}
use Rattle.ifs_verify.specs.Rules.{IsRoutine, IndexesFit, HandlersStandAlone}
use Rattle.ifs_verify.specs.Rules.{JumpsLeadOn, RoutinesEnd, CallsGoDown, PlacesAreReached}
use Rattle.ifs_verify.specs.Typing.{AreTypings, IsTyped}
use Rattle.ifs_verify.specs.Bounds.{AreHeights, AreDepths, AreAmounts, cost_of, commands_of, FitsEvents, FitsHandlers}

-- The number of each routine is within a limit.
abbrev pub EachWithin : ImageParts → (ℕ → ℕ) → ℕ → Type 0
EachWithin image reach limit = (routine : ℕ) → IsRoutine image routine → reach routine ≤ limit

-- Some heights of some typing are within the limit of 32, and those of the handlers within the stated stack.
abbrev pub StackFits : ImageParts → Type 0
StackFits image = (kinds : ℕ → ℕ → List Kind) × (heights : ℕ → ℕ) × AreTypings image kinds × AreHeights image kinds heights
    × EachWithin image heights 32 × FitsHandlers image heights image.budgets.stack

-- Some depths are within the limit of 32, and those of the handlers within the stated frames.
abbrev pub FramesFit : ImageParts → Type 0
FramesFit image = (depths : ℕ → ℕ) × AreDepths image depths × EachWithin image depths 32 × FitsHandlers image depths image.budgets.frames

-- Some amounts are within a limit, and those of each event within a stated one.
abbrev pub AmountsFit : (Op → ℕ) → ImageParts → ℕ → ℕ → Type 0
AmountsFit weight image limit stated = (amounts : ℕ → ℕ → ℕ) × AreAmounts weight image amounts × EachWithin image (λ routine. amounts routine 0) limit
    × FitsEvents image (λ routine. amounts routine 0) stated

-- Some costs are within the limit of 100,000, and those of each event within the stated cost.
abbrev pub CostFits : ImageParts → Type 0
CostFits image = AmountsFit cost_of image 100000 image.budgets.cost

-- Some numbers of commands are within the limit of 64, and those of each event within the stated commands.
abbrev pub CommandsFit : ImageParts → Type 0
CommandsFit image = AmountsFit commands_of image 64 image.budgets.commands

-- An image is accepted if it keeps all rules.
pub record IsAccepted (image : ImageParts) : Type 0 where
  pub indexes : IndexesFit image
  pub handlers : HandlersStandAlone image
  pub jumps : JumpsLeadOn image
  pub ends : RoutinesEnd image
  pub calls : CallsGoDown image
  pub reached : PlacesAreReached image
  pub typed : IsTyped image
  pub stack : StackFits image
  pub frames : FramesFit image
  pub cost : CostFits image
  pub commands : CommandsFit image
