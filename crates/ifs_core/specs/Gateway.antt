-- A core: its image, and the state of its run.
use Rattle.std.specs.Prelude.{ℕ, ◌≡◌, ◌<◌, ◌≤◌, List, [], All, IfSome, Option, length, option_map, position}
use Rattle.std.specs.Str.{bytes_eq}
use Rattle.ifs_base.specs.declared.ids.IfaceId.{IfaceId}
use Rattle.ifs_base.specs.declared.ids.StateId.{StateId}
use Rattle.ifs_base.specs.declared.op.LinkState.{LinkState}
use Rattle.ifs_image.specs.declared.parts.ImageParts.{ImageParts}
use Rattle.ifs_machine.specs.Run.{AreFactsOf, IsCommand}
use Rattle.ifs_machine.specs.Views.{facts_of}
use Rattle.ifs_core.specs.declared.position.Position.{Position as PositionOfCode}
use Rattle.ifs_core.specs.declared.step.Reply.{Reply}
use Rattle.ifs_core.specs.Event.{Behaviour, Position, Event, opening}
use Rattle.ifs_core.specs.Machine.{all_unknown, periods_in}
use Rattle.ifs_core.specs.Steps.{CoreState, state_told, command_taken}

-- An accepted image and the state of its run.
pub record OpenCore : Type 0 where
  pub image : ImageParts
  pub state : CoreState

-- A state is in an image's list.
abbrev pub IsListed : ImageParts → StateId → Type 0
IsListed image state = state.0 < length image.states

-- A reply names things of the image: its state is in the list, and its command is in the table.
pub record IsReplyOf (image : ImageParts) (reply : Reply) : Type 0 where
  pub state : IfSome (state_told reply) (IsListed image)
  pub command : IfSome (command_taken reply) (IsCommand image)

-- A position is one of an image: it has its numbers of facts and tests, and a state of its list.
pub record IsPositionOf (image : ImageParts) (p : Position) : Type 0 where
  pub facts : AreFactsOf image p.facts
  pub current : IsListed image p.current
  pub tests : length p.schedule.tests ≡ length image.tests

-- A state is one of an image's run: it has a position of the image, at most 64 commands of its table, and states of its list in the trace.
pub record IsStateOf (image : ImageParts) (s : CoreState) : Type 0 where
  pub position : IsPositionOf image s.position
  pub queue : length s.queue ≤ 64
  pub commands : All (IsCommand image) s.queue
  pub trace : All (λ r. IsListed image r.state) s.trace

-- The position that contracts see.
abbrev pub position_of : PositionOfCode → Position
position_of p = record { facts = facts_of p.facts; current = p.current; owed = p.owed; schedule = p.schedule }

-- What is known when an image is opened: the link states of its interfaces, and the number of its first run, 0 if none is left.
pub record Known : Type 0 where
  pub links : List LinkState
  pub first_run : ℕ

-- There is one link state for each interface.
abbrev pub IsKnownOf : ImageParts → Known → Type 0
IsKnownOf image known = length known.links ≡ length image.interfaces

-- Nothing is known of the links, and runs are numbered from 1.
abbrev pub nothing_known : ImageParts → Known
nothing_known image = record { links = all_unknown image; first_run = 1 }

-- The event that opens an image.
abbrev pub opening_of : Behaviour → ImageParts → Known → Event
opening_of b image known = opening b known.links (periods_in image) known.first_run image.initial

-- The state after the opening: its commands are queued, and the trace is empty.
abbrev pub opened : Behaviour → ImageParts → Known → CoreState
opened b image known = record { position = (opening_of b image known).position; queue = (opening_of b image known).commands; trace = [] }

-- The interface of a name, compared byte by byte, if the table has it.
abbrev pub interface_of : List (List ℕ) → List ℕ → Option IfaceId
interface_of interfaces name = option_map (λ index. record { 0 = index }) (position (λ other. bytes_eq other name) interfaces)
