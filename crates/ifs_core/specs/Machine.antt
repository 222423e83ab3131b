-- Machine events: the events of an image, whose handlers run on the machine.
use Rattle.std.specs.Prelude.{ℕ, ◌≡◌, ◌≤◌, List, length, Option, Some, option_map, slice_get, map, All}
use Rattle.ifs_base.specs.declared.ids.CommandId.{CommandId}
use Rattle.ifs_base.specs.declared.op.LinkState.{LinkState}
use Rattle.ifs_base.specs.declared.op.LinkState.TheVariants.{Unknown}
use Rattle.ifs_base.specs.Facts.{Facts}
use Rattle.ifs_image.specs.declared.parts.StateSpec.{StateSpec}
use Rattle.ifs_image.specs.declared.parts.ImageParts.{ImageParts}
use Rattle.ifs_base.specs.Effects.{Effects, followed}
use Rattle.ifs_machine.specs.Run.{RunsTo, AreFactsOf, HasRoom, IsCommand}
use Rattle.ifs_core.specs.Event.{Handler, AlwaysInit, AlwaysBody, Init, Body, Behaviour}

-- The routine of a handler; none if the state does not exist.
abbrev pub routine_of : ImageParts → Handler → Option ℕ
routine_of image AlwaysInit = Some image.always.init.0
routine_of image AlwaysBody = Some image.always.body.0
routine_of image (Init state) = option_map (λ s. s.handlers.init.0) (slice_get image.states state)
routine_of image (Body state) = option_map (λ s. s.handlers.body.0) (slice_get image.states state)

-- A behaviour is that of an image: its masks are those of the image, and each handler does what its run does, without a trap, after any effects that leave room for its commands.
pub record IsBehaviour (image : ImageParts) (b : Behaviour) : Type 0 where
  pub always : b.always ≡ image.always.mask
  pub active : (state : ℕ) (s : StateSpec) → slice_get image.states state ≡ Some s → b.active state ≡ s.handlers.mask
  pub runs : (handler : Handler) (routine : ℕ) (facts : Facts) (before : Effects) → routine_of image handler ≡ Some routine
      → AreFactsOf image facts → HasRoom image routine (length before.commands)
      → RunsTo image facts routine before (b.cost handler facts) (followed before (b.answer handler facts))

-- The cost and the commands of an event are within the image's budgets, and the commands are in the table.
pub record KeepsBudgets (image : ImageParts) (commands : List CommandId) (paid : ℕ) : Type 0 where
  pub cost : paid ≤ image.budgets.cost
  pub count : length commands ≤ image.budgets.commands
  pub known : All (IsCommand image) commands

-- The unknown link states of an image's interfaces.
abbrev pub all_unknown : ImageParts → List LinkState
all_unknown image = map (λ _. Unknown) image.interfaces

-- The periods of an image's tests, in seconds.
abbrev pub periods_in : ImageParts → List ℕ
periods_in image = map (λ test. test.period) image.tests
