-- Acceptance does not depend on the version of an image.
use Rattle.std.proofs.Common.{ℕ, ◌≡◌, List, ◌∷◌, refl, sym, ◌∙◌}
use Rattle.ifs_base.specs.declared.op.Kind.{Kind}
use Rattle.ifs_base.specs.declared.op.Kind.TheVariants.{Truth, Command, StateName}
use Rattle.ifs_base.specs.declared.op.Op.{Op}
use Rattle.ifs_base.specs.declared.op.Op.TheVariants.{Negate, Both}
use Rattle.ifs_base.specs.declared.op.Op.TheVariants.{Either, Queue, Want}
use Rattle.ifs_base.specs.declared.op.Op.TheVariants.{JumpFalse, JumpTrue, Call, Pop, Dup}
use Rattle.ifs_image.specs.declared.parts.ImageParts.{ImageParts}
use Rattle.ifs_image.specs.Code.{effect}
use Rattle.ifs_verify.specs.Rules.{HasOperand, IndexesFit, HandlersStandAlone}
use Rattle.ifs_verify.specs.Typing.{IsTyping, AreTypings}
use Rattle.ifs_verify.specs.Bounds.{cost_of, commands_of, AreHeights, AreDepths, AreAmounts, FitsEvents, FitsHandlers}
use Rattle.ifs_verify.specs.Accepted.{AmountsFit, IsAccepted}
use Rattle.ifs_verify.specs.Laws.{AreAcceptedAlike}

-- An image in another version.
abbrev pub of_version : ℕ → ImageParts → ImageParts
of_version version image = record image { version = version }

effect_same : (version : ℕ) (image : ImageParts) (op : Op) (kinds : List Kind) → effect (of_version version image) op kinds ≡ effect image op kinds
effect_same version image (Call n) kinds = refl
effect_same version image Negate (Truth ∷ kinds) = refl
effect_same version image Both (Truth ∷ Truth ∷ kinds) = refl
effect_same version image Either (Truth ∷ Truth ∷ kinds) = refl
effect_same version image Queue (Command ∷ kinds) = refl
effect_same version image Want (StateName ∷ kinds) = refl
effect_same version image (JumpFalse target) (Truth ∷ kinds) = refl
effect_same version image (JumpTrue target) (Truth ∷ kinds) = refl
effect_same version image Pop (kind ∷ kinds) = refl
effect_same version image Dup (kind ∷ kinds) = refl
effect_same version image op kinds = refl

HasOperand-version : (version : ℕ) (image : ImageParts) (op : Op) → HasOperand image op → HasOperand (of_version version image) op
HasOperand-version version image (Call routine) has = has
HasOperand-version version image op has = has

IndexesFit-version : (version : ℕ) (image : ImageParts) → IndexesFit image → IndexesFit (of_version version image)
IndexesFit-version version image fits = record {
  initial = fits.initial;
  always = fits.always;
  always_mask = fits.always_mask;
  states = fits.states;
  masks = fits.masks;
  operands = λ routine place op is. HasOperand-version version image op (fits.operands routine place op is);
}

HandlersStandAlone-version : (version : ℕ) (image : ImageParts) → HandlersStandAlone image → HandlersStandAlone (of_version version image)
HandlersStandAlone-version version image alone = record { always = alone.always; states = alone.states }

IsTyping-version : (version : ℕ) (image : ImageParts) (routine : ℕ) (kinds : ℕ → List Kind) → IsTyping image routine kinds
    → IsTyping (of_version version image) routine kinds
IsTyping-version version image routine kinds typing = record {
  start = typing.start;
  flows = λ place op is.
      let flow = typing.flows place op is in
      (flow.0, effect_same version image op (kinds place) ∙ flow.1, flow.2);
  results = typing.results;
}

AreTypings-version : (version : ℕ) (image : ImageParts) (kinds : ℕ → ℕ → List Kind) → AreTypings image kinds → AreTypings (of_version version image) kinds
AreTypings-version version image kinds typings = λ routine is_routine. IsTyping-version version image routine (kinds routine) (typings routine is_routine)

AreHeights-version : (version : ℕ) (image : ImageParts) (kinds : ℕ → ℕ → List Kind) (heights : ℕ → ℕ) → AreHeights image kinds heights
    → AreHeights (of_version version image) kinds heights
AreHeights-version version image kinds heights are = record {
  before = are.before;
  after = λ routine place op next is e. are.after routine place op next is (sym (effect_same version image op (kinds routine place)) ∙ e);
  calls = are.calls;
}

AreDepths-version : (version : ℕ) (image : ImageParts) (depths : ℕ → ℕ) → AreDepths image depths → AreDepths (of_version version image) depths
AreDepths-version version image depths are = record { own = are.own; calls = are.calls }

AreAmounts-version : (version : ℕ) (weight : Op → ℕ) (image : ImageParts) (amounts : ℕ → ℕ → ℕ) → AreAmounts weight image amounts
    → AreAmounts weight (of_version version image) amounts
AreAmounts-version version weight image amounts are = record { own = are.own; onward = are.onward }

FitsHandlers-version : (version : ℕ) (image : ImageParts) (reach : ℕ → ℕ) (stated : ℕ) → FitsHandlers image reach stated
    → FitsHandlers (of_version version image) reach stated
FitsHandlers-version version image reach stated fits = record {
  always_init = fits.always_init;
  always_body = fits.always_body;
  init = fits.init;
  body = fits.body;
}

FitsEvents-version : (version : ℕ) (image : ImageParts) (amount : ℕ → ℕ) (stated : ℕ) → FitsEvents image amount stated
    → FitsEvents (of_version version image) amount stated
FitsEvents-version version image amount stated fits = record { evaluation = fits.evaluation; opening = fits.opening }

AmountsFit-version : (version : ℕ) (weight : Op → ℕ) (image : ImageParts) (limit stated : ℕ) → AmountsFit weight image limit stated
    → AmountsFit weight (of_version version image) limit stated
AmountsFit-version version weight image limit stated fits =
    (fits.0, AreAmounts-version version weight image fits.0 fits.1, fits.2, FitsEvents-version version image (λ routine. fits.0 routine 0) stated fits.3)

-- An accepted image is accepted in every version.
IsAccepted-version : (version : ℕ) (image : ImageParts) → IsAccepted image → IsAccepted (of_version version image)
IsAccepted-version version image accepted = record {
  indexes = IndexesFit-version version image accepted.indexes;
  handlers = HandlersStandAlone-version version image accepted.handlers;
  jumps = accepted.jumps;
  ends = accepted.ends;
  calls = accepted.calls;
  reached = accepted.reached;
  typed = (accepted.typed.0, AreTypings-version version image accepted.typed.0 accepted.typed.1);
  stack =
      let fits = accepted.stack in (
        fits.0,
        fits.1,
        AreTypings-version version image fits.0 fits.2,
        AreHeights-version version image fits.0 fits.1 fits.3,
        fits.4,
        FitsHandlers-version version image fits.1 image.budgets.stack fits.5,
      );
  frames =
      let fits = accepted.frames in
      (fits.0, AreDepths-version version image fits.0 fits.1, fits.2, FitsHandlers-version version image fits.0 image.budgets.frames fits.3);
  cost = AmountsFit-version version cost_of image 100000 image.budgets.cost accepted.cost;
  commands = AmountsFit-version version commands_of image 64 image.budgets.commands accepted.commands;
}

-- An image is accepted alike in every version, since it is another version of each of these.
pub accepted_alike : (version : ℕ) (image : ImageParts) → AreAcceptedAlike image (of_version version image)
accepted_alike version image =
    let own : ℕ = image.version in
    let other : ImageParts = of_version version image in
    record {
      accepted = (IsAccepted-version version image, IsAccepted-version own other);
      typings = λ kinds. (AreTypings-version version image kinds, AreTypings-version own other kinds);
      heights = λ kinds heights. (AreHeights-version version image kinds heights, AreHeights-version own other kinds heights);
      depths = λ depths. (AreDepths-version version image depths, AreDepths-version own other depths);
      amounts = λ weight amounts. (AreAmounts-version version weight image amounts, AreAmounts-version own weight other amounts);
      handlers = λ reach stated. (FitsHandlers-version version image reach stated, FitsHandlers-version own other reach stated);
      events = λ amount stated. (FitsEvents-version version image amount stated, FitsEvents-version own other amount stated);
    }
