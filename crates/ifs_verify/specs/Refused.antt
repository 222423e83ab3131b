-- Refusals: what each fault of the verifier says of the image, at its place.
use Rattle.std.specs.Prelude.{ℕ, ◌≡◌, ◌≢◌, ◌-◌, ◌<◌, ◌≤◌, ◌⊎◌, List, length, Some, None, Err, slice_get}
use Rattle.ifs_base.specs.declared.ids.RoutineId.{RoutineId}
use Rattle.ifs_base.specs.declared.op.Kind.{Kind}
use Rattle.ifs_base.specs.declared.op.Op.{Op}
use Rattle.ifs_base.specs.declared.op.Op.TheVariants.{Ret, Call}
use Rattle.ifs_image.specs.declared.fault.ImageFault.{ImageFault}
use Rattle.ifs_image.specs.declared.fault.ImageFault.TheVariants.{Memory}
use Rattle.ifs_image.specs.declared.parts.StateSpec.{StateSpec}
use Rattle.ifs_image.specs.declared.parts.ImageParts.{ImageParts}
use Rattle.ifs_image.specs.Code.{op_at, code_of, results_of, target_of, effect, IsSuccessor}
use Rattle.ifs_image.specs.Spelling.{Spells}
use Rattle.ifs_image.specs.Reading.{image_of}
use Rattle.ifs_verify.specs.declared.fault.At.{At}
use Rattle.ifs_verify.specs.declared.fault.At.TheVariants.{Head, State, Code}
use Rattle.ifs_verify.specs.declared.fault.VerifyFault.{VerifyFault}
use Rattle.ifs_verify.specs.declared.fault.VerifyFault.TheVariants.{NoImage, NoEntry, JumpTarget, LeftAtEnd, Unreached}
use Rattle.ifs_verify.specs.declared.fault.VerifyFault.TheVariants.{WrongOperand, WaysDisagree, CallNotLower}
use Rattle.ifs_verify.specs.declared.fault.VerifyFault.TheVariants.{WrongResults, StackOver, FramesOver, CostOver}
use Rattle.ifs_verify.specs.declared.fault.VerifyFault.TheVariants.{CommandsOver, HandlerLeaves, OutOfMemory}
use Rattle.ifs_verify.specs.Rules.{IsRoutine, AreIndexes, HasOperand, BothStandAlone, IsReached}
use Rattle.ifs_verify.specs.Typing.{AreTypings}
use Rattle.ifs_verify.specs.Ways.{Leads}
use Rattle.ifs_verify.specs.Bounds.{AreHeights, AreDepths, AreAmounts, cost_of, commands_of, FitsEvents, FitsHandlers}
use Rattle.ifs_verify.specs.Accepted.{EachWithin, IsAccepted}

-- An index is not in its table, or a mask has a bit for no test: of the head, of a state, or of an instruction.
abbrev pub LacksEntry : ImageParts → At → Type 0
LacksEntry image Head = ¬ ((image.initial.0 < length image.states) × AreIndexes image image.always)
LacksEntry image (State state) = (found : StateSpec) × (slice_get image.states state.0 ≡ Some found) × ¬ AreIndexes image found.handlers
LacksEntry image (Code routine place) = (op : Op) × (op_at image routine.0 place ≡ Some op) × ¬ HasOperand image op

-- A handler of the always part or of a state has a parameter or a result.
abbrev pub LeavesValue : ImageParts → At → Type 0
LeavesValue image Head = ¬ BothStandAlone image image.always
LeavesValue image (State state) = (found : StateSpec) × (slice_get image.states state.0 ≡ Some found) × ¬ BothStandAlone image found.handlers
LeavesValue image (Code routine place) = ⊥

-- A fact of a place of a routine, which no other place has.
abbrev pub InCode : (ℕ → ℕ → Type 0) → At → Type 0
InCode says (Code routine place) = says routine.0 place
InCode says _ = ⊥

-- A jump is there, and its target is no later place of its routine.
abbrev pub JumpsElsewhere : ImageParts → ℕ → ℕ → Type 0
JumpsElsewhere image routine place = (op : Op) × (target : ℕ) × (op_at image routine place ≡ Some op) × (target_of op ≡ Some target)
    × ¬ ((place < target) × (target < length (code_of image routine)))

-- The last place of a routine, or place 0 of one without instructions, has no `ret`.
abbrev pub IsOpenEnd : ImageParts → ℕ → ℕ → Type 0
IsOpenEnd image routine place = IsRoutine image routine × (place ≡ length (code_of image routine) - 1) × (op_at image routine place ≢ Some Ret)

-- A call is there, and the number of its callee is not lower.
abbrev pub CallsNoLower : ImageParts → ℕ → ℕ → Type 0
CallsNoLower image routine place = (callee : RoutineId) × (op_at image routine place ≡ Some (Call callee)) × (routine ≤ callee.0)

-- A place of a routine, other than 0, that follows no earlier one.
abbrev pub IsDead : ImageParts → ℕ → ℕ → Type 0
IsDead image routine place = (0 < place) × (place < length (code_of image routine)) × ¬ IsReached image routine place

-- Some way leads there with a list that lacks an operand or has one of the wrong kind.
abbrev pub LacksOperand : ImageParts → ℕ → ℕ → Type 0
LacksOperand image routine place = (op : Op) × (kinds : List Kind) × (op_at image routine place ≡ Some op) × Leads image routine place place kinds
    × (effect image op kinds ≡ None)

-- Some way leads to a `ret` there with another list than the routine's results.
abbrev pub ReturnsOthers : ImageParts → ℕ → ℕ → Type 0
ReturnsOthers image routine place = (kinds : List Kind) × (op_at image routine place ≡ Some Ret) × Leads image routine place place kinds × (kinds ≢ results_of image routine)

-- The instruction at a place leaves a list, at the end of some way to it.
pub record LeavesList (image : ImageParts) (routine place : ℕ) (op : Op) (after : List Kind) : Type 0 where
  pub before : List Kind
  pub stands : op_at image routine place ≡ Some op
  pub leads : Leads image routine place place before
  pub effect_is : effect image op before ≡ Some after

-- At the end of some way, the instruction there leaves more than 32 kinds.
abbrev pub LeavesMany : ImageParts → ℕ → ℕ → Type 0
LeavesMany image routine place = (op : Op) × (after : List Kind) × LeavesList image routine place op after × (32 < length after)

-- At the end of some way, the instruction there leaves a list to a successor. Another way, over no later place, leads to it with another list.
abbrev pub Disagrees : ImageParts → ℕ → ℕ → Type 0
Disagrees image routine place = (op : Op) × (after : List Kind) × (to : ℕ) × (other : List Kind) × LeavesList image routine place op after × IsSuccessor op place to
    × Leads image routine place to other × (other ≢ after)

-- Bounds of one kind are over. At place 0 of a routine: there are bounds, and all pass the limit in that routine. At the head: some bounds are within the limit, and none fit the stated ones.
abbrev pub AreOver : ImageParts → ((ℕ → ℕ) → Type 0) → ℕ → ((ℕ → ℕ) → Type 0) → At → Type 0
AreOver image AreBounds limit Fits Head = ((bounds : ℕ → ℕ) × AreBounds bounds × EachWithin image bounds limit) × ((bounds : ℕ → ℕ) → AreBounds bounds → ¬ Fits bounds)
AreOver image AreBounds limit Fits (State state) = ⊥
AreOver image AreBounds limit Fits (Code routine place) = (place ≡ 0) × IsRoutine image routine.0 × ((bounds : ℕ → ℕ) × AreBounds bounds)
    × ((bounds : ℕ → ℕ) → AreBounds bounds → limit < bounds routine.0)

-- Heights are those of some typing.
abbrev pub AreTypedHeights : ImageParts → (ℕ → ℕ) → Type 0
AreTypedHeights image heights = (kinds : ℕ → ℕ → List Kind) × AreTypings image kinds × AreHeights image kinds heights

-- Totals are the amounts at the first places of the routines.
abbrev pub AreTotals : (Op → ℕ) → ImageParts → (ℕ → ℕ) → Type 0
AreTotals weight image totals = (amounts : ℕ → ℕ → ℕ) × AreAmounts weight image amounts × ((routine : ℕ) → amounts routine 0 ≡ totals routine)

-- The heights are over, of a routine or of a handler.
abbrev pub StackIsOver : ImageParts → At → Type 0
StackIsOver image at = AreOver image (AreTypedHeights image) 32 (λ heights. FitsHandlers image heights image.budgets.stack) at

-- The frames are over.
abbrev pub FramesAreOver : ImageParts → At → Type 0
FramesAreOver image at = AreOver image (AreDepths image) 32 (λ depths. FitsHandlers image depths image.budgets.frames) at

-- The costs are over, of a routine or of an event.
abbrev pub CostIsOver : ImageParts → At → Type 0
CostIsOver image at = AreOver image (AreTotals cost_of image) 100000 (λ costs. FitsEvents image costs image.budgets.cost) at

-- The numbers of commands are over.
abbrev pub CommandsAreOver : ImageParts → At → Type 0
CommandsAreOver image at = AreOver image (AreTotals commands_of image) 64 (λ commands. FitsEvents image commands image.budgets.commands) at

-- A check fails in an image, at the place of the fault. A fault in reading and a failed allocation are no such check.
abbrev pub Fails : VerifyFault → ImageParts → Type 0
Fails (NoImage fault) image = ⊥
Fails (NoEntry at) image = LacksEntry image at
Fails (JumpTarget at) image = InCode (JumpsElsewhere image) at
Fails (LeftAtEnd at) image = InCode (IsOpenEnd image) at
Fails (Unreached at) image = InCode (IsDead image) at
Fails (WrongOperand at) image = InCode (LacksOperand image) at
Fails (WaysDisagree at) image = InCode (Disagrees image) at
Fails (CallNotLower at) image = InCode (CallsNoLower image) at
Fails (WrongResults at) image = InCode (ReturnsOthers image) at
Fails (StackOver at) image = InCode (LeavesMany image) at ⊎ StackIsOver image at
Fails (FramesOver at) image = FramesAreOver image at
Fails (CostOver at) image = CostIsOver image at
Fails (CommandsOver at) image = CommandsAreOver image at
Fails (HandlerLeaves at) image = LeavesValue image at
Fails OutOfMemory image = ⊥

-- The fault of the verifier for a fault in reading. A failed allocation stays one.
abbrev pub refusal_of : ImageFault → VerifyFault
refusal_of Memory = OutOfMemory
refusal_of fault = NoImage fault

-- What a refusal says of the bytes: reading them gives the fault, or the named check fails in the image that they spell.
abbrev pub IsRefusal : List ℕ → VerifyFault → Type 0
IsRefusal bytes OutOfMemory = Unit {0}
IsRefusal bytes (NoImage fault) = image_of bytes ≡ Err fault
IsRefusal bytes fault = (image : ImageParts) × Spells bytes image × Fails fault image

-- The bytes spell no accepted image, unless the fault is a failed allocation.
abbrev pub AreNotAccepted : List ℕ → VerifyFault → Type 0
AreNotAccepted bytes fault = fault ≢ OutOfMemory → (image : ImageParts) → Spells bytes image → ¬ IsAccepted image
