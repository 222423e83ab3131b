-- The bounds of the handlers of an event, handler by handler.
use Rattle.std.specs.Prelude.{ℕ, ◌≡◌, ◌+◌, ◌<◌, ◌≤◌, length, Some, slice_get, All, IfSome}
use Rattle.ifs_image.specs.declared.parts.StateSpec.{StateSpec}
use Rattle.ifs_image.specs.declared.parts.ImageParts.{ImageParts}
use Rattle.ifs_verify.specs.Bounds.{AreAmounts, cost_of, commands_of}
use Rattle.ifs_base.specs.Effects.{Effects}
use Rattle.ifs_machine.specs.Run.{HasRoom, IsCommand}

-- The effects of handlers are those of the image: commands of the table, and a wish for a state of the list.
pub record AreEffectsOf (image : ImageParts) (effects : Effects) : Type 0 where
  pub commands : All (IsCommand image) effects.commands
  pub wish : IfSome effects.wish (λ state. state.0 < length image.states)

-- The bodies of the always part and of a state ran: their commands and cost are within every bound of both.
pub record RanBodies (image : ImageParts) (current : ℕ) (end : Effects) (cost : ℕ) : Type 0 where
  pub own : StateSpec
  pub at : slice_get image.states current ≡ Some own
  pub effects : AreEffectsOf image end
  pub count : (bound : ℕ → ℕ → ℕ) (state : StateSpec) → AreAmounts commands_of image bound → slice_get image.states current ≡ Some state
      → length end.commands ≤ bound image.always.body.0 0 + bound state.handlers.body.0 0
  pub within : (bound : ℕ → ℕ → ℕ) (state : StateSpec) → AreAmounts cost_of image bound → slice_get image.states current ≡ Some state
      → cost ≤ bound image.always.body.0 0 + bound state.handlers.body.0 0

-- The bodies left room for the commands of a state's init, by some bound.
abbrev pub HasInitRoom : ImageParts → ℕ → Effects → Type 0
HasInitRoom image current before = (state : StateSpec) → slice_get image.states current ≡ Some state → HasRoom image state.handlers.init.0 (length before.commands)

-- A state's init ran: its commands and cost are within every bound of it.
pub record RanInit (image : ImageParts) (current : ℕ) (before end : Effects) (cost : ℕ) : Type 0 where
  pub own : StateSpec
  pub at : slice_get image.states current ≡ Some own
  pub known : All (IsCommand image) before.commands → All (IsCommand image) end.commands
  pub count : (bound : ℕ → ℕ → ℕ) (state : StateSpec) → AreAmounts commands_of image bound → slice_get image.states current ≡ Some state
      → length end.commands ≤ length before.commands + bound state.handlers.init.0 0
  pub within : (bound : ℕ → ℕ → ℕ) (state : StateSpec) → AreAmounts cost_of image bound → slice_get image.states current ≡ Some state
      → cost ≤ bound state.handlers.init.0 0
