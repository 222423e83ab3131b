-- A check that fails keeps an image from being accepted.
use Rattle.std.proofs.Common.{ℕ, ◌≡◌, List, Some, None, arith, refl, ap, sym, ◌∙◌, inl, inr}
use Rattle.std.proofs.lemmas.Option.{same_Some}
use Rattle.ifs_base.specs.declared.op.Kind.{Kind}
use Rattle.ifs_base.specs.declared.op.Op.{Op}
use Rattle.ifs_image.specs.declared.parts.ImageParts.{ImageParts}
use Rattle.ifs_image.specs.Code.{op_at, effect, IsSuccessor}
use Rattle.ifs_verify.specs.declared.fault.At.{At}
use Rattle.ifs_verify.specs.declared.fault.At.TheVariants.{Head, State, Code}
use Rattle.ifs_verify.specs.declared.fault.VerifyFault.{VerifyFault}
use Rattle.ifs_verify.specs.declared.fault.VerifyFault.TheVariants.{NoImage, NoEntry, JumpTarget, LeftAtEnd, Unreached}
use Rattle.ifs_verify.specs.declared.fault.VerifyFault.TheVariants.{WrongOperand, WaysDisagree, CallNotLower}
use Rattle.ifs_verify.specs.declared.fault.VerifyFault.TheVariants.{WrongResults, StackOver, FramesOver, CostOver}
use Rattle.ifs_verify.specs.declared.fault.VerifyFault.TheVariants.{CommandsOver, HandlerLeaves, OutOfMemory}
use Rattle.ifs_verify.specs.Rules.{IndexesFit, HandlersStandAlone}
use Rattle.ifs_verify.specs.Typing.{IsTyped, IsTyping, FlowsOn}
use Rattle.ifs_verify.specs.Bounds.{cost_of, commands_of, FitsEvents, FitsHandlers, AreDepths}
use Rattle.ifs_verify.specs.Accepted.{IsAccepted, EachWithin, StackFits}
use Rattle.ifs_verify.specs.Refused.{Fails, LacksEntry, LeavesValue, InCode, JumpsElsewhere, IsOpenEnd}
use Rattle.ifs_verify.specs.Refused.{CallsNoLower, IsDead, LacksOperand, ReturnsOthers, LeavesList}
use Rattle.ifs_verify.specs.Refused.{LeavesMany, Disagrees, AreOver, AreTypedHeights, AreTotals}
use Rattle.ifs_verify.proofs.Instructions.{op_at-routine}
use Rattle.ifs_verify.proofs.Ways.{led}

lacks_entry : (at : At) (image : ImageParts) → IndexesFit image → LacksEntry image at → ⊥
lacks_entry Head image fits lacks = lacks (fits.initial, (fits.always, fits.always_mask))
lacks_entry (State state) image fits lacks = lacks.2 (fits.states state.0 lacks.0 lacks.1, fits.masks state.0 lacks.0 lacks.1)
lacks_entry (Code routine place) image fits lacks = lacks.2 (fits.operands routine.0 place lacks.0 lacks.1)

leaves_value : (at : At) (image : ImageParts) → HandlersStandAlone image → LeavesValue image at → ⊥
leaves_value Head image fits leaves = leaves fits.always
leaves_value (State state) image fits leaves = leaves.2 (fits.states state.0 leaves.0 leaves.1)
leaves_value (Code routine place) image fits leaves = leaves

-- A fault at no place says nothing.
nowhere : (says : ℕ → ℕ → Type 0) (at : At) → ((routine place : ℕ) → says routine place → ⊥) → InCode says at → ⊥
nowhere says (Code routine place) none it = none routine.0 place it
nowhere says at none it = it

-- Each typing has at the successors what an instruction leaves at the end of a way.
left_for_all : (image : ImageParts) (routine place to : ℕ) (op : Op) (after : List Kind) (typing : ℕ → List Kind) → IsTyping image routine typing
    → LeavesList image routine place op after → IsSuccessor op place to → typing to ≡ after
left_for_all image routine place to op after typing is_typing leaves successor =
    let flow : FlowsOn image typing place op = is_typing.flows place op leaves.stands in
    let same : typing place ≡ leaves.before = led image routine place place leaves.before typing is_typing leaves.leads in
    let e : Some flow.0 ≡ Some after = sym flow.1 ∙ ap (λ (kinds : List Kind). effect image op kinds) same ∙ leaves.effect_is in
    flow.2 to successor ∙ same_Some flow.0 after e

lacks_operand : (image : ImageParts) → IsTyped image → (routine place : ℕ) → LacksOperand image routine place → ⊥
lacks_operand image typed routine place lacks =
    let is_typing = typed.1 routine (op_at-routine image routine place lacks.0 lacks.2) in
    let flow : FlowsOn image (typed.0 routine) place lacks.0 = is_typing.flows place lacks.0 lacks.2 in
    let same : typed.0 routine place ≡ lacks.1 = led image routine place place lacks.1 (typed.0 routine) is_typing lacks.3 in
    let e : None ≡ Some flow.0 = sym lacks.4 ∙ ap (λ (kinds : List Kind). effect image lacks.0 kinds) (sym same) ∙ flow.1 in
    cc

returns_others : (image : ImageParts) → IsTyped image → (routine place : ℕ) → ReturnsOthers image routine place → ⊥
returns_others image typed routine place others =
    let is_typing = typed.1 routine (op_at-routine image routine place _ others.1) in
    others.3 (sym (led image routine place place others.0 (typed.0 routine) is_typing others.2) ∙ is_typing.results place others.1)

disagrees : (image : ImageParts) → IsTyped image → (routine place : ℕ) → Disagrees image routine place → ⊥
disagrees image typed routine place ways =
    let is_typing = typed.1 routine (op_at-routine image routine place ways.0 ways.4.stands) in
    ways.7 (sym (led image routine place ways.2 ways.3 (typed.0 routine) is_typing ways.6)
    ∙ left_for_all image routine place ways.2 ways.0 ways.1 (typed.0 routine) is_typing ways.4 ways.5)

leaves_many : (image : ImageParts) → StackFits image → (routine place : ℕ) → LeavesMany image routine place → ⊥
leaves_many image fits routine place many =
    let left = many.2 in
    let is_routine = op_at-routine image routine place many.0 left.stands in
    let same : fits.0 routine place ≡ left.before = led image routine place place left.before (fits.0 routine) (fits.2 routine is_routine) left.leads in
    let e : effect image many.0 (fits.0 routine place) ≡ Some many.1 = ap (λ (kinds : List Kind). effect image many.0 kinds) same ∙ left.effect_is in
    omega (arith, many.3, fits.3.after routine place many.0 many.1 left.stands e, fits.4 routine is_routine)

-- Bounds that fit are not over.
over : (at : At) (image : ImageParts) (AreBounds : (ℕ → ℕ) → Type 0) (limit : ℕ) (Fits : (ℕ → ℕ) → Type 0) (bounds : ℕ → ℕ) → AreBounds bounds
    → EachWithin image bounds limit → Fits bounds → AreOver image AreBounds limit Fits at → ⊥
over Head image AreBounds limit Fits bounds are within fits it = it.1 bounds are fits
over (State state) image AreBounds limit Fits bounds are within fits it = it
over (Code routine place) image AreBounds limit Fits bounds are within fits it = omega (arith, it.3 bounds are, within routine.0 it.1)

stack_over : (at : At) (image : ImageParts) → StackFits image → Fails (StackOver at) image → ⊥
stack_over at image fits (inl many) = nowhere (LeavesMany image) at (leaves_many image fits) many
stack_over at image fits (inr bounds) =
    over at image (AreTypedHeights image) 32 (λ heights. FitsHandlers image heights image.budgets.stack) fits.1 (fits.0, fits.2, fits.3) fits.4 fits.5 bounds

pub fails_of_accepted : (fault : VerifyFault) (image : ImageParts) → IsAccepted image → Fails fault image → ⊥
fails_of_accepted (NoImage fault) image accepted fails = fails
fails_of_accepted (NoEntry at) image accepted fails = lacks_entry at image accepted.indexes fails
fails_of_accepted (JumpTarget at) image accepted fails =
    nowhere (JumpsElsewhere image) at (λ routine place jumps. jumps.4 (accepted.jumps routine place jumps.0 jumps.1 jumps.2 jumps.3)) fails
fails_of_accepted (LeftAtEnd at) image accepted fails =
    nowhere (IsOpenEnd image) at (λ routine place open_end. open_end.2 (ap (λ (n : ℕ). op_at image routine n) open_end.1 ∙ accepted.ends routine open_end.0)) fails
fails_of_accepted (Unreached at) image accepted fails =
    nowhere (IsDead image) at (λ routine place dead. dead.2 (accepted.reached routine place dead.0 dead.1)) fails
fails_of_accepted (WrongOperand at) image accepted fails = nowhere (LacksOperand image) at (lacks_operand image accepted.typed) fails
fails_of_accepted (WaysDisagree at) image accepted fails = nowhere (Disagrees image) at (disagrees image accepted.typed) fails
fails_of_accepted (CallNotLower at) image accepted fails =
    nowhere (CallsNoLower image) at (λ routine place calls. omega (arith, calls.2, accepted.calls routine place calls.0 calls.1)) fails
fails_of_accepted (WrongResults at) image accepted fails = nowhere (ReturnsOthers image) at (returns_others image accepted.typed) fails
fails_of_accepted (StackOver at) image accepted fails = stack_over at image accepted.stack fails
fails_of_accepted (FramesOver at) image accepted fails =
    let fits = accepted.frames in
    over at image (AreDepths image) 32 (λ depths. FitsHandlers image depths image.budgets.frames) fits.0 fits.1 fits.2 fits.3 fails
fails_of_accepted (CostOver at) image accepted fails =
    let fits = accepted.cost in
    over at image (AreTotals cost_of image) 100000 (λ costs. FitsEvents image costs image.budgets.cost) (λ routine. fits.0 routine 0) (fits.0, fits.1, λ routine. refl) fits.2 fits.3 fails
fails_of_accepted (CommandsOver at) image accepted fails =
    let fits = accepted.commands in
    over at image (AreTotals commands_of image) 64 (λ commands. FitsEvents image commands image.budgets.commands) (λ routine. fits.0 routine 0)
    (fits.0, fits.1, λ routine. refl) fits.2 fits.3 fails
fails_of_accepted (HandlerLeaves at) image accepted fails = leaves_value at image accepted.handlers fails
fails_of_accepted OutOfMemory image accepted fails = fails
