-- The bounds that the passes find, of one routine and of the routines below one.
use Rattle.std.specs.Prelude.{ℕ, ◌≡◌, ◌<◌, ◌≤◌, List, slice_index}
use Rattle.ifs_image.specs.declared.parts.ImageParts.{ImageParts}
use Rattle.ifs_verify.specs.declared.amounts.AmountsByPlace.{AmountsByPlace}
use Rattle.ifs_verify.specs.declared.amounts.Weight.{Weight}
use Rattle.ifs_verify.specs.declared.bounds.Bounds.{Bounds}
use Rattle.ifs_verify.specs.declared.fault.At.TheVariants.{Code}
use Rattle.ifs_verify.specs.Bounds.{AreAmounts, cost_of, commands_of}
use Rattle.ifs_verify.specs.inner.Passes.{HoldsByPlace, IsRoom, AmountIsOver, LeastDepths}
use Rattle.ifs_verify.specs.inner.Passes.{LeastAmounts, weight_of, limit_of}

-- The least amount of a routine, given those of the lower ones. It is over if it passes the limit.
pub record IsAmount (weight : Weight) (image : ImageParts) (lower : List ℕ) (routine amount : ℕ) : Type 0 where
  pub holds : (by_place : ℕ → ℕ) × (by_place 0 ≡ amount) × HoldsByPlace (weight_of weight) image (slice_index lower) routine by_place
  pub least : (all : ℕ → ℕ → ℕ) → AreAmounts (weight_of weight) image all → ((k : ℕ) → k < routine → slice_index lower k ≤ all k 0) → amount ≤ all routine 0
  pub over : limit_of weight < amount → AmountIsOver weight image (Code (record { 0 = routine }) 0)

-- There is room for costs and commands.
abbrev pub HaveRoom : ImageParts → AmountsByPlace → Type 0
HaveRoom image by_place = IsRoom image by_place.costs.items × IsRoom image by_place.commands.items

-- The least bounds of the routines below `done`, all within their limits.
-- The least bounds of the routines below `done`, all within their limits.
pub record AreFound (image : ImageParts) (heights : List ℕ) (bounds : Bounds) (done : ℕ) : Type 0 where
  pub heights_low : (routine : ℕ) → routine < done → slice_index heights routine ≤ 32
  pub depths : LeastDepths image bounds.depths.items done
  pub costs : LeastAmounts cost_of image 100000 bounds.costs.items done
  pub commands : LeastAmounts commands_of image 64 bounds.commands.items done
