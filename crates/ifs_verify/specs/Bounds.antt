-- Bounds of the stack, of the frames at one time, of the cost and of the queued commands.
-- Bounds are any numbers that are large enough; a routine's own bounds are the least such numbers.
use Rattle.std.specs.Prelude.{ℕ, ◌≡◌, ◌+◌, ◌-◌, ◌≤◌, List, length, Some, slice_get}
use Rattle.ifs_base.specs.declared.ids.RoutineId.{RoutineId}
use Rattle.ifs_base.specs.declared.op.Kind.{Kind}
use Rattle.ifs_base.specs.declared.op.Op.{Op}
use Rattle.ifs_base.specs.declared.op.Op.TheVariants.{Queue, Call}
use Rattle.ifs_image.specs.declared.parts.StateSpec.{StateSpec}
use Rattle.ifs_image.specs.declared.parts.ImageParts.{ImageParts}
use Rattle.ifs_image.specs.Code.{op_at, params_of, IsSuccessor, effect}

-- Heights are large enough for the kinds before and after each instruction, and at a call for the callee above what its parameters leave.
pub record AreHeights (image : ImageParts) (kinds : ℕ → ℕ → List Kind) (heights : ℕ → ℕ) : Type 0 where
  pub before : (routine place : ℕ) (op : Op) → op_at image routine place ≡ Some op → length (kinds routine place) ≤ heights routine
  pub after : (routine place : ℕ) (op : Op) (next : List Kind) → op_at image routine place ≡ Some op
      → effect image op (kinds routine place) ≡ Some next → length next ≤ heights routine
  pub calls : (routine place : ℕ) (callee : RoutineId) → op_at image routine place ≡ Some (Call callee)
      → length (kinds routine place) - length (params_of image callee.0) + heights callee.0 ≤ heights routine

-- Depths are large enough for a routine's own frame and those of each callee above it.
pub record AreDepths (image : ImageParts) (depths : ℕ → ℕ) : Type 0 where
  pub own : (routine : ℕ) → 1 ≤ depths routine
  pub calls : (routine place : ℕ) (callee : RoutineId) → op_at image routine place ≡ Some (Call callee) → depths callee.0 + 1 ≤ depths routine

-- The amount that a call adds: the callee's amount at place 0.
abbrev pub callee_amount : (ℕ → ℕ → ℕ) → Op → ℕ
callee_amount amounts (Call callee) = amounts callee.0 0
callee_amount amounts _ = 0

-- Amounts at each place are large enough for all that may be executed from there to the routine's end. Each instruction has a weight.
pub record AreAmounts (weight : Op → ℕ) (image : ImageParts) (amounts : ℕ → ℕ → ℕ) : Type 0 where
  pub own : (routine place : ℕ) (op : Op) → op_at image routine place ≡ Some op → weight op + callee_amount amounts op ≤ amounts routine place
  pub onward : (routine place to : ℕ) (op : Op) → op_at image routine place ≡ Some op → IsSuccessor op place to
      → weight op + callee_amount amounts op + amounts routine to ≤ amounts routine place

-- The cost of an instruction.
abbrev pub cost_of : Op → ℕ
cost_of op = 1

-- The number of commands that an instruction queues.
abbrev pub commands_of : Op → ℕ
commands_of Queue = 1
commands_of _ = 0

-- The amounts of each event are within a stated one: an evaluation runs the always body, a state's body and a state's init; the opening runs the always init and the initial state's init.
pub record FitsEvents (image : ImageParts) (amount : ℕ → ℕ) (stated : ℕ) : Type 0 where
  pub evaluation : (j k : ℕ) (current next : StateSpec) → slice_get image.states j ≡ Some current → slice_get image.states k ≡ Some next
      → amount image.always.body.0 + amount current.handlers.body.0 + amount next.handlers.init.0 ≤ stated
  pub opening : (first : StateSpec) → slice_get image.states image.initial.0 ≡ Some first
      → amount image.always.init.0 + amount first.handlers.init.0 ≤ stated

-- The bound of each handler is within a stated one.
pub record FitsHandlers (image : ImageParts) (reach : ℕ → ℕ) (stated : ℕ) : Type 0 where
  pub always_init : reach image.always.init.0 ≤ stated
  pub always_body : reach image.always.body.0 ≤ stated
  pub init : (k : ℕ) (state : StateSpec) → slice_get image.states k ≡ Some state → reach state.handlers.init.0 ≤ stated
  pub body : (k : ℕ) (state : StateSpec) → slice_get image.states k ≡ Some state → reach state.handlers.body.0 ≤ stated
