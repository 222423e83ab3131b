-- Reload: what `carry` keeps of a core, and what `open_with` makes of it.
use Rattle.std.specs.Prelude.{ℕ, ◌≡◌, ◌≢◌, if◌then◌else◌, List, [], ◌∷◌, ◌++◌, map, length, All, Some, slice_get}
use Rattle.std.specs.Str.{bytes_eq}
use Rattle.ifs_base.specs.declared.ids.CommandId.{CommandId}
use Rattle.ifs_base.specs.declared.op.LinkState.{LinkState}
use Rattle.ifs_base.specs.declared.op.LinkState.TheVariants.{Unknown}
use Rattle.ifs_image.specs.declared.parts.ImageParts.{ImageParts}
use Rattle.ifs_image.specs.Limits.{Fits}
use Rattle.ifs_sched.specs.Schedule.{run_from}
use Rattle.ifs_core.specs.declared.carried.CarryCause.{CarryCause}
use Rattle.ifs_core.specs.declared.carried.CarryCause.TheVariants as causes
use Rattle.ifs_core.specs.declared.carried.NamedLink.{NamedLink}
use Rattle.ifs_core.specs.Event.{Behaviour}
use Rattle.ifs_core.specs.Gateway.{OpenCore, Known, opened}
use Rattle.ifs_core.specs.Steps.{CoreState}

-- What is carried: the known link states by the names of their interfaces, and the number of the next run, 0 if none is left.
pub record Carrying : Type 0 where
  pub links : List NamedLink
  pub next_run : ℕ

-- The link state of an interface under its name, or nothing if it is unknown.
abbrev pub known_link : List ℕ → LinkState → List NamedLink
known_link name Unknown = []
known_link name link = record { name = name; link = link } ∷ []

-- The known link states of interfaces, under their names.
abbrev pub known_links : List (List ℕ) → List LinkState → List NamedLink
known_links (name ∷ names) (link ∷ links) = known_link name link ++ known_links names links
known_links names links = []

-- What is carried is that of a core.
pub record IsCarriedFrom (core : OpenCore) (carried : Carrying) : Type 0 where
  pub links : carried.links ≡ known_links core.image.interfaces core.state.position.facts.links
  pub next_run : run_from carried.next_run ≡ core.state.position.schedule.next_run

-- A core with this queue cannot be carried for a cause: a command waits, or none does and an allocation fails.
abbrev pub CannotCarry : List CommandId → CarryCause → Type 0
CannotCarry queue causes.Queued = queue ≢ []
CannotCarry queue causes.Memory = queue ≡ []

-- The known link state of the interface of a name, or unknown.
abbrev pub link_named : List NamedLink → List ℕ → LinkState
link_named [] name = Unknown
link_named (known ∷ links) name = if bytes_eq known.name name then known.link else link_named links name

-- What is known when an image is opened with what was carried: of each interface the link state under its name.
abbrev pub known_by : Carrying → ImageParts → Known
known_by carried image = record { links = map (link_named carried.links) image.interfaces; first_run = carried.next_run }

-- The links of these interfaces are those of a core: each is that of the core's interface of the same name, and unknown if the core has none.
pub record AreLinksOf (core : OpenCore) (names : List (List ℕ)) (links : List LinkState) : Type 0 where
  pub kept : (i k : ℕ) (name : List ℕ) → slice_get names i ≡ Some name → slice_get core.image.interfaces k ≡ Some name → slice_get links i ≡ slice_get core.state.position.facts.links k
  pub unknown : (i : ℕ) (name : List ℕ) → slice_get names i ≡ Some name → All (λ other. other ≢ name) core.image.interfaces → slice_get links i ≡ Some Unknown

-- A state of an image goes on from a core: its links are those of the core, and its next run has the number that the core's would have had.
pub record GoesOn (core : OpenCore) (image : ImageParts) (state : CoreState) : Type 0 where
  pub links : AreLinksOf core image.interfaces state.position.facts.links
  pub runs : state.position.schedule.next_run ≡ core.state.position.schedule.next_run

-- An image that is opened with what was carried from a core goes on from that core.
abbrev pub LinksStand : Type 0
LinksStand = (b : Behaviour) (core : OpenCore) (carried : Carrying) (next : ImageParts) → Fits core.image
    → length core.state.position.facts.links ≡ length core.image.interfaces → IsCarriedFrom core carried → GoesOn core next (opened b next (known_by carried next))
