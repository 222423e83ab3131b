-- The plain rules of an image: rules of each instruction and each handler by itself.
use Rattle.std.specs.Prelude.{ℕ, ◌≡◌, ◌-◌, ◌^◌, ◌<◌, [], length, Some, slice_get}
use Rattle.ifs_base.specs.declared.ids.RoutineId.{RoutineId}
use Rattle.ifs_base.specs.declared.op.Op.{Op}
use Rattle.ifs_base.specs.declared.op.Op.TheVariants.{Ret, Link, Test, Known, PushCommand, PushState, Call}
use Rattle.ifs_image.specs.declared.parts.Handlers.{Handlers}
use Rattle.ifs_image.specs.declared.parts.StateSpec.{StateSpec}
use Rattle.ifs_image.specs.declared.parts.ImageParts.{ImageParts}
use Rattle.ifs_image.specs.Code.{op_at, params_of, results_of, code_of, IsSuccessor, target_of}

-- A number is that of a routine of the image.
abbrev pub IsRoutine : ImageParts → ℕ → Type 0
IsRoutine image routine = routine < length image.routines

-- Init and body are routines of the image.
abbrev pub AreRoutines : ImageParts → Handlers → Type 0
AreRoutines image handlers = IsRoutine image handlers.init.0 × IsRoutine image handlers.body.0

-- A mask has no bit at or over the number of tests.
abbrev pub IsMask : ImageParts → ℕ → Type 0
IsMask image mask = mask < 2 ^ length image.tests

-- Init and body are routines of the image, and the mask has only tests of the table.
abbrev pub AreIndexes : ImageParts → Handlers → Type 0
AreIndexes image handlers = AreRoutines image handlers × IsMask image handlers.mask

-- An instruction's operand is an index of its table.
abbrev pub HasOperand : ImageParts → Op → Type 0
HasOperand image (Link interface state) = interface.0 < length image.interfaces
HasOperand image (Test test) = test.0 < length image.tests
HasOperand image (Known test) = test.0 < length image.tests
HasOperand image (PushCommand command) = command.0 < length image.commands
HasOperand image (PushState state) = state.0 < length image.states
HasOperand image (Call routine) = IsRoutine image routine.0
HasOperand image _ = Unit {0}

-- Each index is in its table, and each mask has only tests of the table.
pub record IndexesFit (image : ImageParts) : Type 0 where
  pub initial : image.initial.0 < length image.states
  pub always : AreRoutines image image.always
  pub always_mask : IsMask image image.always.mask
  pub states : (k : ℕ) (state : StateSpec) → slice_get image.states k ≡ Some state → AreRoutines image state.handlers
  pub masks : (k : ℕ) (state : StateSpec) → slice_get image.states k ≡ Some state → IsMask image state.handlers.mask
  pub operands : (routine place : ℕ) (op : Op) → op_at image routine place ≡ Some op → HasOperand image op

-- A routine has no parameters and no results.
abbrev pub StandsAlone : ImageParts → ℕ → Type 0
StandsAlone image routine = (params_of image routine ≡ []) × (results_of image routine ≡ [])

-- Neither handler has parameters or results.
abbrev pub BothStandAlone : ImageParts → Handlers → Type 0
BothStandAlone image handlers = StandsAlone image handlers.init.0 × StandsAlone image handlers.body.0

-- No handler has parameters or results.
pub record HandlersStandAlone (image : ImageParts) : Type 0 where
  pub always : BothStandAlone image image.always
  pub states : (k : ℕ) (state : StateSpec) → slice_get image.states k ≡ Some state → BothStandAlone image state.handlers

-- The target of each jump is a later place of its routine.
abbrev pub JumpsLeadOn : ImageParts → Type 0
JumpsLeadOn image = (routine place : ℕ) (op : Op) (target : ℕ) → op_at image routine place ≡ Some op → target_of op ≡ Some target
    → (place < target) × (target < length (code_of image routine))

-- Each routine has instructions, and the last one is `ret`.
abbrev pub RoutinesEnd : ImageParts → Type 0
RoutinesEnd image = (routine : ℕ) → IsRoutine image routine → op_at image routine (length (code_of image routine) - 1) ≡ Some Ret

-- The callee of each call has a lower number.
abbrev pub CallsGoDown : ImageParts → Type 0
CallsGoDown image = (routine place : ℕ) (callee : RoutineId) → op_at image routine place ≡ Some (Call callee) → callee.0 < routine

-- A place follows the instruction at an earlier one.
abbrev pub IsReached : ImageParts → ℕ → ℕ → Type 0
IsReached image routine to = (place : ℕ) × (op : Op) × (place < to) × (op_at image routine place ≡ Some op) × IsSuccessor op place to

-- Each place of a routine, except the first, follows an earlier one.
abbrev pub PlacesAreReached : ImageParts → Type 0
PlacesAreReached image = (routine to : ℕ) → 0 < to → to < length (code_of image routine) → IsReached image routine to
