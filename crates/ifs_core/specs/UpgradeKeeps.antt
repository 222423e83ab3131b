-- Upgrade: an image of version 1 and its upgrade are accepted alike and mean the same.
use Rattle.std.specs.Prelude.{ℕ, ◌≡◌, ◌↔◌, List}
use Rattle.ifs_image.specs.declared.parts.Budgets.{Budgets}
use Rattle.ifs_image.specs.declared.parts.ImageParts.{ImageParts}
use Rattle.ifs_image.specs.Limits.{Fits}
use Rattle.ifs_image.specs.Spelling.{Spells, image_bytes}
use Rattle.ifs_image.specs.Upgrade.{upgraded}
use Rattle.ifs_verify.specs.Accepted.{IsAccepted}
use Rattle.ifs_core.specs.Event.{Behaviour}
use Rattle.ifs_core.specs.Machine.{IsBehaviour}
use Rattle.ifs_core.specs.Gateway.{Known, opening_of}
use Rattle.ifs_core.specs.Headline.{IsVerified}

-- An image with other budgets.
abbrev pub with_budgets : ImageParts → Budgets → ImageParts
with_budgets image budgets = record image { budgets = budgets }

-- Two images mean the same: they are accepted alike, and have the same events and budgets.
pub record MeansTheSame (image other : ImageParts) : Type 0 where
  -- one is accepted if and only if the other is
  pub accepted : IsAccepted image ↔ IsAccepted other
  -- they have the same behaviours, which determine each event except the opening
  pub behaviours : (b : Behaviour) → IsBehaviour image b ↔ IsBehaviour other b
  -- they have the same opening
  pub opening : (b : Behaviour) (known : Known) → opening_of b other known ≡ opening_of b image known
  -- they state the same budgets
  pub budgets : other.budgets ≡ image.budgets
  -- any budgets are enough for one if and only if they are for the other, so the least are the same
  pub enough : (budgets : Budgets) → IsAccepted (with_budgets image budgets) ↔ IsAccepted (with_budgets other budgets)

-- The upgrade of an image of version 1 fits the limits, and means the same.
abbrev pub UpgradeKeeps : Type 0
UpgradeKeeps = (image : ImageParts) → Fits image → image.version ≡ 1 → Fits (upgraded image) × MeansTheSame image (upgraded image)

-- The bytes of an image and those of its upgrade.
pub record UpgradedBytes (bytes : List ℕ) (image : ImageParts) : Type 0 where
  -- there are bytes of the upgrade
  pub spelled : Spells (image_bytes (upgraded image)) (upgraded image)
  -- `verify` accepts them if and only if it accepts those of the image
  pub verified : (other : List ℕ) → Spells other (upgraded image) → IsVerified bytes image ↔ IsVerified other (upgraded image)
  -- both images mean the same
  pub means : MeansTheSame image (upgraded image)

-- The same of bytes that spell an image of version 1.
abbrev pub UpgradeKeepsBytes : Type 0
UpgradeKeepsBytes = (bytes : List ℕ) (image : ImageParts) → Spells bytes image → image.version ≡ 1 → UpgradedBytes bytes image
