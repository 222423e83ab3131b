-- Reloads: the core that is opened in place of another, and why there is none.
use Rattle.std.specs.Prelude.{ℕ, ◌≡◌, List, [], codes}
use Rattle.ifs_image.specs.declared.parts.ImageParts.{ImageParts}
use Rattle.ifs_image.specs.Spelling.{Spells}
use Rattle.ifs_verify.specs.Accepted.{IsAccepted}
use Rattle.ifs_verify.specs.Refused.{AreNotAccepted, IsRefusal}
use Rattle.ifs_core.specs.declared.carried.CarryCause.TheVariants as causes
use Rattle.ifs_core.specs.Event.{Behaviour}
use Rattle.ifs_core.specs.Machine.{IsBehaviour}
use Rattle.ifs_core.specs.Gateway.{OpenCore, opened}
use Rattle.ifs_core.specs.Carrying.{Carrying, IsCarriedFrom, CannotCarry, known_by}
use Rattle.ifs_verify.specs.FaultWords.{verify_fault_words}
use Rattle.ifs_host.specs.declared.reloading.ReloadFault.{ReloadFault}
use Rattle.ifs_host.specs.declared.reloading.ReloadFault.TheVariants as reloads

-- An image is opened in place of a core whose queue is empty: these bytes spell it, it is accepted, and it is opened with what the core carries.
pub record IsTakenOver (core : OpenCore) (bytes : List ℕ) (next : OpenCore) : Type 0 where
  pub spelled : Spells bytes next.image
  pub accepted : IsAccepted next.image
  pub queue : core.state.queue ≡ []
  pub carried : Carrying
  pub handed_on : IsCarriedFrom core carried
  pub state : (b : Behaviour) → IsBehaviour next.image b → next.state ≡ opened b next.image (known_by carried next.image)

-- Why a reload of these bytes is refused: the verifier rejects them with this fault or runs out of memory, or it accepts them and the core cannot carry what it knows.
abbrev pub IsReloadRefusal : OpenCore → List ℕ → ReloadFault → Type 0
IsReloadRefusal core bytes (reloads.Image fault) = AreNotAccepted bytes fault × IsRefusal bytes fault
IsReloadRefusal core bytes (reloads.Carry cause) = ((image : ImageParts) × Spells bytes image × IsAccepted image) × CannotCarry core.state.queue cause
IsReloadRefusal core bytes _ = ⊥

-- The words of a refused reload.
abbrev pub reload_words : ReloadFault → List ℕ
reload_words reloads.File = codes "L2"
reload_words reloads.TooMany = codes "L3"
reload_words (reloads.Image fault) = verify_fault_words fault
reload_words (reloads.Carry causes.Memory) = codes "L0"
reload_words (reloads.Carry causes.Queued) = codes "L1"
