-- Laws of acceptance.
use Rattle.std.specs.Prelude.{ℕ, ◌≡◌, ◌<◌, ◌↔◌, List, length}
use Rattle.ifs_base.specs.declared.op.Kind.{Kind}
use Rattle.ifs_base.specs.declared.op.Op.{Op}
use Rattle.ifs_image.specs.declared.parts.ImageParts.{ImageParts}
use Rattle.ifs_image.specs.Code.{code_of}
use Rattle.ifs_image.specs.Upgrade.{upgraded}
use Rattle.ifs_verify.specs.Rules.{PlacesAreReached}
use Rattle.ifs_verify.specs.Typing.{IsTyping, AreTypings}
use Rattle.ifs_verify.specs.Bounds.{AreHeights, AreDepths, AreAmounts, FitsEvents, FitsHandlers}
use Rattle.ifs_verify.specs.Accepted.{IsAccepted}
use Rattle.ifs_verify.specs.declared.fault.VerifyFault.{VerifyFault}
use Rattle.ifs_verify.specs.Refused.{IsRefusal, AreNotAccepted}

-- If each place is reached, two typings of a routine agree at each of its places.
abbrev pub HasOneTyping : Type 0
HasOneTyping = (image : ImageParts) (routine : ℕ) (kinds other : ℕ → List Kind) → PlacesAreReached image
    → IsTyping image routine kinds → IsTyping image routine other
    → (place : ℕ) → place < length (code_of image routine) → kinds place ≡ other place

-- Bytes of a refusal are not accepted.
abbrev pub RefusedAreNotAccepted : Type 0
RefusedAreNotAccepted = (bytes : List ℕ) (fault : VerifyFault) → IsRefusal bytes fault → AreNotAccepted bytes fault

-- Two images are accepted alike, and the same typings, bounds and budgets fit both.
pub record AreAcceptedAlike (image other : ImageParts) : Type 0 where
  pub accepted : IsAccepted image ↔ IsAccepted other
  pub typings : (kinds : ℕ → ℕ → List Kind) → AreTypings image kinds ↔ AreTypings other kinds
  pub heights : (kinds : ℕ → ℕ → List Kind) (heights : ℕ → ℕ) → AreHeights image kinds heights ↔ AreHeights other kinds heights
  pub depths : (depths : ℕ → ℕ) → AreDepths image depths ↔ AreDepths other depths
  pub amounts : (weight : Op → ℕ) (amounts : ℕ → ℕ → ℕ) → AreAmounts weight image amounts ↔ AreAmounts weight other amounts
  pub handlers : (reach : ℕ → ℕ) (stated : ℕ) → FitsHandlers image reach stated ↔ FitsHandlers other reach stated
  pub events : (amount : ℕ → ℕ) (stated : ℕ) → FitsEvents image amount stated ↔ FitsEvents other amount stated

-- An image and its upgrade are accepted alike.
abbrev pub UpgradeKeepsAcceptance : Type 0
UpgradeKeepsAcceptance = (image : ImageParts) → AreAcceptedAlike image (upgraded image)
