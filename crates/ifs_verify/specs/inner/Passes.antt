-- What the passes of the verifier find, and what they rely on.
use Rattle.std.specs.Prelude.{ℕ, ◌≡◌, ◌≢◌, ◌+◌, ◌-◌, ◌<◌, ◌≤◌, Bool, true, List, ◌∷◌}
use Rattle.std.specs.Prelude.{length, Option, Some, None, slice_get, slice_index, ◌*◌}
use Rattle.std.specs.Option.{option_flatten}
use Rattle.ifs_base.specs.declared.ids.RoutineId.{RoutineId}
use Rattle.ifs_base.specs.declared.op.Kind.{Kind}
use Rattle.ifs_base.specs.declared.op.Op.{Op}
use Rattle.ifs_base.specs.declared.op.Op.TheVariants.{Ret, Jump, Call}
use Rattle.ifs_image.specs.declared.parts.Handlers.{Handlers}
use Rattle.ifs_image.specs.declared.parts.StateSpec.{StateSpec}
use Rattle.ifs_image.specs.declared.parts.ImageParts.{ImageParts}
use Rattle.ifs_image.specs.Code.{op_at, code_of, params_of, results_of, target_of, effect, IsSuccessor}
use Rattle.ifs_verify.specs.declared.fault.VerifyFault.{VerifyFault}
use Rattle.ifs_verify.specs.declared.fault.At.{At}
use Rattle.ifs_verify.specs.declared.fault.VerifyFault.TheVariants.{NoEntry, JumpTarget, CallNotLower, OutOfMemory}
use Rattle.ifs_verify.specs.declared.rules.OpRule.{OpRule}
use Rattle.ifs_verify.specs.declared.rules.OpRule.TheVariants.{Operand, Target, Callee}
use Rattle.ifs_verify.specs.declared.budgets.Role.{Role}
use Rattle.ifs_verify.specs.declared.budgets.Role.TheVariants.{Init, Body}
use Rattle.ifs_verify.specs.Rules.{HasOperand, IndexesFit, JumpsLeadOn, RoutinesEnd, CallsGoDown, PlacesAreReached}
use Rattle.ifs_verify.specs.declared.amounts.Weight.{Weight}
use Rattle.ifs_verify.specs.declared.amounts.Weight.TheVariants.{Cost, Commands}
use Rattle.ifs_verify.specs.Bounds.{cost_of, commands_of, callee_amount, AreHeights, AreDepths, AreAmounts, FitsEvents}
use Rattle.ifs_verify.specs.Typing.{IsTyping, AreTypings}
use Rattle.ifs_verify.specs.Refused.{Fails, AreOver, AreTotals}
use Rattle.ifs_verify.specs.Ways.{Leads}

-- The limits of an image on which the passes rely.
pub record IsSized (image : ImageParts) : Type 0 where
  pub tests : length image.tests ≤ 64
  pub states : length image.states ≤ 256
  pub routines : length image.routines ≤ 1024
  pub code : (routine : ℕ) → length (code_of image routine) ≤ 1024

-- A fault names a check that fails, unless it is a failed allocation.
abbrev pub IsImageRefused : ImageParts → VerifyFault → Type 0
IsImageRefused image fault = fault ≢ OutOfMemory → Fails fault image

-- The instruction at a place keeps a rule.
abbrev pub Keeps : OpRule → ImageParts → ℕ → ℕ → Op → Type 0
Keeps Operand image routine place op = HasOperand image op
Keeps Target image routine place op = (target : ℕ) → target_of op ≡ Some target → (place < target) × (target < length (code_of image routine))
Keeps Callee image routine place op = (callee : RoutineId) → op ≡ Call callee → callee.0 < routine

-- Each instruction keeps each rule.
abbrev pub KeepAll : ImageParts → Type 0
KeepAll image = (rule : OpRule) (routine place : ℕ) (op : Op) → op_at image routine place ≡ Some op → Keeps rule image routine place op

-- The fault of a broken rule.
abbrev pub fault_of : OpRule → At → VerifyFault
fault_of Operand at = NoEntry at
fault_of Target at = JumpTarget at
fault_of Callee at = CallNotLower at

-- The next place, if control may go on there.
abbrev pub next_of : Op → ℕ → Option ℕ
next_of Ret place = None
next_of (Jump target) place = None
next_of _ place = Some (place + 1)

-- The kind is not on top.
abbrev pub LacksTop : Kind → List Kind → Type 0
LacksTop kind kinds = (below : List Kind) → kinds ≢ kind ∷ below

-- The list of kinds at a place, if it has one.
abbrev pub kinds_at : List (Option (List Kind)) → ℕ → Option (List Kind)
kinds_at lists place = option_flatten (slice_get lists place)

-- The instruction at a place leaves a list within the limit; at `ret` the list before is that of the results.
pub record Leaves (image : ImageParts) (routine : ℕ) (lists : List (Option (List Kind))) (place : ℕ) (op : Op) (after : List Kind) : Type 0 where
  pub before : List Kind
  pub here : kinds_at lists place ≡ Some before
  pub effect_is : effect image op before ≡ Some after
  pub within : length after ≤ 32
  pub results : op ≡ Ret → before ≡ results_of image routine

-- A place is passed: its successors have the list that its instruction leaves.
pub record HasPassed (image : ImageParts) (routine : ℕ) (lists : List (Option (List Kind))) (place : ℕ) (op : Op) : Type 0 where
  pub after : List Kind
  pub leaves : Leaves image routine lists place op after
  pub onward : (to : ℕ) → IsSuccessor op place to → kinds_at lists to ≡ Some after

-- The lists of a routine whose places below `done` are passed. Some way over places up to `done` leads to each list.
pub record IsTypedUpTo (image : ImageParts) (routine : ℕ) (lists : List (Option (List Kind))) (done : ℕ) : Type 0 where
  pub long : length lists ≡ length (code_of image routine)
  pub start : kinds_at lists 0 ≡ Some (params_of image routine)
  pub within : (place : ℕ) (kinds : List Kind) → kinds_at lists place ≡ Some kinds → length kinds ≤ 32
  pub passed : (place : ℕ) (op : Op) → place < done → op_at image routine place ≡ Some op → HasPassed image routine lists place op
  pub leads : (place : ℕ) (kinds : List Kind) → kinds_at lists place ≡ Some kinds → Leads image routine done place kinds

-- An instruction leaves a list within the limit; at `ret` the list before is that of the results.
pub record Yields (image : ImageParts) (routine : ℕ) (op : Op) (before after : List Kind) : Type 0 where
  pub effect_is : effect image op before ≡ Some after
  pub within : length after ≤ 32
  pub results : op ≡ Ret → before ≡ results_of image routine

-- Each routine has fewer instructions than a number.
abbrev pub RoutinesAreShorter : ImageParts → ℕ → Type 0
RoutinesAreShorter image size = (routine : ℕ) → length (code_of image routine) < size

-- The lists that were brought are those of the places after `place`, and no others. There is room for each routine.
pub record AreAhead (image : ImageParts) (lists brought : List (Option (List Kind))) (place : ℕ) : Type 0 where
  pub long : length lists < length brought
  pub room : RoutinesAreShorter image (length brought)
  pub passed : (to : ℕ) → to ≤ place → kinds_at brought to ≡ None
  pub later : (to : ℕ) → place < to → kinds_at lists to ≡ kinds_at brought to

-- No place has a list. There is room for each routine.
pub record AreClear (image : ImageParts) (brought : List (Option (List Kind))) : Type 0 where
  pub room : RoutinesAreShorter image (length brought)
  pub none : (place : ℕ) → kinds_at brought place ≡ None

-- The list that was brought to a place is dropped.
pub record IsCleared (old new : List (Option (List Kind))) (place : ℕ) : Type 0 where
  pub long : length new ≡ length old
  pub at_place : kinds_at new place ≡ None
  pub others : (to : ℕ) → to ≢ place → kinds_at new to ≡ kinds_at old to

-- Before a place is passed: the lower places are passed by some lists, which have `here` at the place and what was brought to later ones.
pub record Stands (image : ImageParts) (routine place : ℕ) (here : List Kind) (brought : List (Option (List Kind))) : Type 0 where
  pub lists : List (Option (List Kind))
  pub typed : IsTypedUpTo image routine lists place
  pub at_place : place < length (code_of image routine) → kinds_at lists place ≡ Some here
  pub ahead : AreAhead image lists brought place

-- While a place is passed: the lower places are passed by some lists, and its instruction leaves `after`.
pub record IsLeft (image : ImageParts) (routine place : ℕ) (op : Op) (after : List Kind) (brought : List (Option (List Kind))) : Type 0 where
  pub lists : List (Option (List Kind))
  pub typed : IsTypedUpTo image routine lists place
  pub leaves : Leaves image routine lists place op after
  pub ahead : AreAhead image lists brought place

-- All places of a routine are passed by some lists.
abbrev pub IsTypable : ImageParts → ℕ → Type 0
IsTypable image routine = (lists : List (Option (List Kind))) × IsTypedUpTo image routine lists (length (code_of image routine))

-- New lists have all that the old ones have.
abbrev pub Extends : List (Option (List Kind)) → List (Option (List Kind)) → Type 0
Extends old new = (place : ℕ) (kinds : List Kind) → kinds_at old place ≡ Some kinds → kinds_at new place ≡ Some kinds

-- The rules that are checked before the stacks.
pub record PlainRulesHold (image : ImageParts) : Type 0 where
  pub sized : IsSized image
  pub indexes : IndexesFit image
  pub jumps : JumpsLeadOn image
  pub ends : RoutinesEnd image
  pub calls : CallsGoDown image
  pub reached : PlacesAreReached image

-- A place is marked.
abbrev pub IsMarked : List Bool → ℕ → Type 0
IsMarked marks k = slice_get marks k ≡ Some true

-- A height is large enough for one instruction and the kinds before it.
pub record HoldsHeight (image : ImageParts) (heights : ℕ → ℕ) (op : Op) (kinds : List Kind) (height : ℕ) : Type 0 where
  pub before : length kinds ≤ height
  pub after : (left : List Kind) → effect image op kinds ≡ Some left → length left ≤ height
  pub call : (callee : RoutineId) → op ≡ Call callee → length kinds - length (params_of image callee.0) + heights callee.0 ≤ height

-- A height is large enough for the lengths before and after an instruction, and at a call for the callee above what its parameters leave.
pub record IsHighEnough (image : ImageParts) (heights : ℕ → ℕ) (op : Op) (before after height : ℕ) : Type 0 where
  pub holds_before : before ≤ height
  pub holds_after : after ≤ height
  pub call : (callee : RoutineId) → op ≡ Call callee → before - length (params_of image callee.0) + heights callee.0 ≤ height

-- A height is large enough for the instruction at a place, with each list that a way leads there.
abbrev pub HoldsAt : ImageParts → ℕ → (ℕ → ℕ) → ℕ → ℕ → Type 0
HoldsAt image routine heights place height = (op : Op) (kinds : List Kind) → op_at image routine place ≡ Some op
    → Leads image routine (length (code_of image routine)) place kinds → HoldsHeight image heights op kinds height

-- A height is the least one that is large enough at a place.
pub record NeedsHeight (image : ImageParts) (routine : ℕ) (heights : ℕ → ℕ) (place height : ℕ) : Type 0 where
  pub holds : HoldsAt image routine heights place height
  pub least : (bound : ℕ) → HoldsAt image routine heights place bound → height ≤ bound

-- A height is large enough at each place below one.
abbrev pub AllHold : ImageParts → ℕ → (ℕ → ℕ) → ℕ → ℕ → Type 0
AllHold image routine heights done height = (place : ℕ) → place < done → HoldsAt image routine heights place height

-- The height of each routine is at most 32 for it and for each lower routine.
abbrev pub AreLow : List ℕ → Type 0
AreLow heights = (routine : ℕ) → slice_index heights routine ≤ 32 * (routine + 1)

-- A place follows the instruction at one below `done`.
abbrev pub FollowsBelow : ImageParts → ℕ → ℕ → ℕ → Type 0
FollowsBelow image routine done to = (place : ℕ) × (op : Op) × (place < done) × (op_at image routine place ≡ Some op) × IsSuccessor op place to

-- A number of frames is large enough for a routine's own frame and those of each callee above it.
pub record HoldsDepth (image : ImageParts) (depths : ℕ → ℕ) (routine depth : ℕ) : Type 0 where
  pub own : 1 ≤ depth
  pub calls : (place : ℕ) (callee : RoutineId) → op_at image routine place ≡ Some (Call callee) → depths callee.0 + 1 ≤ depth

-- The weight of an instruction.
abbrev pub weight_of : Weight → Op → ℕ
weight_of Cost = cost_of
weight_of Commands = commands_of

-- The limit of a routine.
abbrev pub limit_of : Weight → ℕ
limit_of Cost = 100000
limit_of Commands = 64

-- The stated amount of one event.
abbrev pub stated_of : Weight → ImageParts → ℕ
stated_of Cost image = image.budgets.cost
stated_of Commands image = image.budgets.commands

-- Amounts are over.
abbrev pub AmountIsOver : Weight → ImageParts → At → Type 0
AmountIsOver weight image at = AreOver image (AreTotals (weight_of weight) image) (limit_of weight) (λ totals. FitsEvents image totals (stated_of weight image)) at

-- An amount is large enough for one instruction and its successors.
pub record HoldsAmount (weight : Op → ℕ) (lower by_place : ℕ → ℕ) (op : Op) (place amount : ℕ) : Type 0 where
  pub own : weight op + callee_amount (λ routine to. lower routine) op ≤ amount
  pub onward : (to : ℕ) → IsSuccessor op place to → weight op + callee_amount (λ routine k. lower routine) op + by_place to ≤ amount

-- Amounts at the places of a routine, each large enough.
abbrev pub HoldsByPlace : (Op → ℕ) → ImageParts → (ℕ → ℕ) → ℕ → (ℕ → ℕ) → Type 0
HoldsByPlace weight image lower routine by_place = (place : ℕ) (op : Op) → op_at image routine place ≡ Some op → HoldsAmount weight lower by_place op place (by_place place)

-- There is room for the amounts of each routine, and no number in it is large.
pub record IsRoom (image : ImageParts) (amounts : List ℕ) : Type 0 where
  pub long : RoutinesAreShorter image (length amounts)
  pub small : (k : ℕ) → slice_index amounts k ≤ 102401024

-- The amounts at the places from `place` on are bounds, and the least ones.
pub record IsCountedFrom (weight : Op → ℕ) (image : ImageParts) (lower : ℕ → ℕ) (routine : ℕ) (amounts : List ℕ) (place : ℕ) : Type 0 where
  pub room : IsRoom image amounts
  pub low : (k : ℕ) → k < length (code_of image routine) → place ≤ k → slice_index amounts k + 100001 * place ≤ 100001 * length (code_of image routine)
  pub holds : (k : ℕ) (op : Op) → place ≤ k → op_at image routine k ≡ Some op → HoldsAmount weight lower (slice_index amounts) op k (slice_index amounts k)
  pub least : (all : ℕ → ℕ → ℕ) → AreAmounts weight image all → ((k : ℕ) → k < routine → lower k ≤ all k 0)
      → (k : ℕ) → k < length (code_of image routine) → place ≤ k → slice_index amounts k ≤ all routine k

-- A typing of a routine whose height is large enough.
abbrev pub IsTypingHeld : ImageParts → (ℕ → ℕ) → ℕ → (ℕ → List Kind) → Type 0
IsTypingHeld image heights routine kinds = IsTyping image routine kinds
    × ((place : ℕ) (op : Op) → op_at image routine place ≡ Some op → HoldsHeight image heights op (kinds place) (heights routine))

-- The heights of the routines below `done` are bounds, and the least ones.
pub record LeastHeights (image : ImageParts) (heights : List ℕ) (done : ℕ) : Type 0 where
  pub long : length heights ≡ done
  pub low : AreLow heights
  pub held : (routine : ℕ) → routine < done → (kinds : ℕ → List Kind) × IsTypingHeld image (slice_index heights) routine kinds
  pub least : (kinds : ℕ → ℕ → List Kind) (all : ℕ → ℕ) → AreTypings image kinds → AreHeights image kinds all
      → (routine : ℕ) → routine < done → slice_index heights routine ≤ all routine

-- The depths of the routines below `done` are bounds, and the least ones.
pub record LeastDepths (image : ImageParts) (depths : List ℕ) (done : ℕ) : Type 0 where
  pub long : length depths ≡ done
  pub low : (k : ℕ) → slice_index depths k ≤ 32
  pub held : (routine : ℕ) → routine < done → HoldsDepth image (slice_index depths) routine (slice_index depths routine)
  pub least : (all : ℕ → ℕ) → AreDepths image all → (routine : ℕ) → routine < done → slice_index depths routine ≤ all routine

-- Amounts at the places of a routine, each large enough. The one at place 0 is that of the routine.
abbrev pub IsCounted : (Op → ℕ) → ImageParts → (ℕ → ℕ) → ℕ → (ℕ → ℕ) → Type 0
IsCounted weight image amounts routine by_place = (by_place 0 ≡ amounts routine) × HoldsByPlace weight image amounts routine by_place

-- The amounts of the routines below `done` are bounds, and the least ones.
pub record LeastAmounts (weight : Op → ℕ) (image : ImageParts) (limit : ℕ) (amounts : List ℕ) (done : ℕ) : Type 0 where
  pub long : length amounts ≡ done
  pub low : (k : ℕ) → slice_index amounts k ≤ limit
  pub held : (routine : ℕ) → routine < done → (by_place : ℕ → ℕ) × IsCounted weight image (slice_index amounts) routine by_place
  pub least : (all : ℕ → ℕ → ℕ) → AreAmounts weight image all → (routine : ℕ) → routine < done → slice_index amounts routine ≤ all routine 0

-- The handler of a part with a role.
abbrev pub handler_in : Role → Handlers → RoutineId
handler_in Init handlers = handlers.init
handler_in Body handlers = handlers.body

-- A number is large enough for the handler of each state.
abbrev pub Reaches : Role → ImageParts → (ℕ → ℕ) → ℕ → Type 0
Reaches role image amount bound = (k : ℕ) (state : StateSpec) → slice_get image.states k ≡ Some state → amount (handler_in role state.handlers).0 ≤ bound
