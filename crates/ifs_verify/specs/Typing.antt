-- Typing: the kinds on the stack at each place. Lists of kinds have the topmost first.
use Rattle.std.specs.Prelude.{ℕ, ◌≡◌, List, Some}
use Rattle.ifs_base.specs.declared.op.Kind.{Kind}
use Rattle.ifs_base.specs.declared.op.Op.{Op}
use Rattle.ifs_base.specs.declared.op.Op.TheVariants.{Ret}
use Rattle.ifs_image.specs.declared.parts.ImageParts.{ImageParts}
use Rattle.ifs_image.specs.Code.{op_at, params_of, results_of, IsSuccessor, effect}
use Rattle.ifs_verify.specs.Rules.{IsRoutine}

-- An instruction has its operands, and each of its successors has exactly the list that it leaves.
abbrev pub FlowsOn : ImageParts → (ℕ → List Kind) → ℕ → Op → Type 0
FlowsOn image kinds place op = (after : List Kind) × (effect image op (kinds place) ≡ Some after) × ((to : ℕ) → IsSuccessor op place to → kinds to ≡ after)

-- Lists of kinds, one for each place, are a typing of a routine.
pub record IsTyping (image : ImageParts) (routine : ℕ) (kinds : ℕ → List Kind) : Type 0 where
  -- the routine starts with its parameters
  pub start : kinds 0 ≡ params_of image routine
  -- each instruction has its operands, and leaves the lists of its successors
  pub flows : (place : ℕ) (op : Op) → op_at image routine place ≡ Some op → FlowsOn image kinds place op
  -- each `ret` has the routine's results
  pub results : (place : ℕ) → op_at image routine place ≡ Some Ret → kinds place ≡ results_of image routine

-- Each routine has its typing.
abbrev pub AreTypings : ImageParts → (ℕ → ℕ → List Kind) → Type 0
AreTypings image kinds = (routine : ℕ) → IsRoutine image routine → IsTyping image routine (kinds routine)

-- There are typings of all routines.
abbrev pub IsTyped : ImageParts → Type 0
IsTyped image = (kinds : ℕ → ℕ → List Kind) × AreTypings image kinds
