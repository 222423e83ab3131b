-- From the limits of an image to what the checks need, and from their results to refusals.
use Rattle.std.proofs.Common.{ℕ, ◌≡◌, ◌≢◌, ◌≤◌, List, length, Option, Some, None}
use Rattle.std.proofs.Common.{Result, Ok, Err, arith, refl, sym, ◌∙◌, subst}
use Rattle.std.proofs.lemmas.Option.{get_or_from_slice_get, slice_get_within}
use Rattle.std.specs.List.{slice_get, All}
use Rattle.ifs_image.specs.declared.fault.ImageFault.{ImageFault}
use Rattle.ifs_image.specs.declared.fault.ImageFault.TheVariants.{Memory}
use Rattle.ifs_image.specs.declared.parts.Routine.{Routine}
use Rattle.ifs_image.specs.declared.parts.ImageParts.{ImageParts}
use Rattle.ifs_image.specs.Code.{code_in}
use Rattle.ifs_image.specs.Limits.{Fits, RoutineFits}
use Rattle.ifs_image.specs.Spelling.{Spells}
use Rattle.ifs_image.specs.Reading.{image_of}
use Rattle.ifs_verify.specs.declared.fault.VerifyFault.{VerifyFault}
use Rattle.ifs_verify.specs.declared.fault.VerifyFault.TheVariants.{NoImage}
use Rattle.ifs_verify.specs.declared.fault.VerifyFault.TheVariants.{OutOfMemory}
use Rattle.ifs_verify.specs.Accepted.{IsAccepted}
use Rattle.ifs_verify.specs.Refused.{Fails, IsRefusal}
use Rattle.ifs_verify.specs.Laws.{RefusedAreNotAccepted}
use Rattle.ifs_verify.specs.inner.Passes.{IsSized, IsImageRefused}
use Rattle.ifs_image.proofs.ImageLaws.{image_again}
use Rattle.ifs_verify.proofs.Faults.{fails_of_accepted}

entry_fits : (version : ℕ) (routines : List Routine) (k : ℕ) (routine : Routine) → All (RoutineFits version) routines → slice_get routines k ≡ Some routine
    → RoutineFits version routine
entry_fits version routines k routine fits is =
    subst (RoutineFits version) (get_or_from_slice_get routines k routine routine is) (fits k routine (slice_get_within routines k routine is))

code_fits : (version : ℕ) (found : Option Routine) → ((routine : Routine) → found ≡ Some routine → RoutineFits version routine) → length (code_in found) ≤ 1024
code_fits version None fits = omega arith
code_fits version (Some routine) fits = (fits routine refl).code

-- An image within its limits is small enough for the checks.
pub sized : (image : ImageParts) → Fits image → IsSized image
sized image fits = record {
  tests = fits.counts.tests;
  states = fits.counts.states;
  routines = fits.counts.routines;
  code = λ k. code_fits image.version (slice_get image.routines k) (λ routine is. entry_fits image.version image.routines k routine fits.routines.each is);
}

-- A check that fails in the image that bytes spell is a refusal of the bytes.
pub check_refuses : (bytes : List ℕ) (image : ImageParts) (fault : VerifyFault) → Spells bytes image → IsImageRefused image fault → IsRefusal bytes fault
check_refuses bytes image (NoImage fault) spelled refused = absurd (refused (λ e. cc))
check_refuses bytes image OutOfMemory spelled refused = tt
check_refuses bytes image fault spelled refused = (image, spelled, refused (λ e. cc))

abbrev read_as : ImageParts → Result ImageParts ImageFault
read_as image = Ok image

ok_same : (a b : ImageParts) → read_as a ≡ read_as b → a ≡ b
ok_same a b e = cc

-- A check that fails in the image that bytes spell keeps it from being accepted.
pub refused_once : (bytes : List ℕ) (image : ImageParts) (fault : VerifyFault) → IsImageRefused image fault
    → ((other : ImageParts) → Spells bytes other → read_as image ≢ Err Memory → read_as image ≡ read_as other)
    → fault ≢ OutOfMemory → (other : ImageParts) → Spells bytes other → ¬ IsAccepted other
refused_once bytes image fault refused only other_fault other spelled accepted =
    let same : image ≡ other = ok_same image other (only other spelled (λ e. cc)) in
    fails_of_accepted fault image (subst IsAccepted (sym same) accepted) (refused other_fault)

-- Bytes with a fault in reading spell no image.
unread : (bytes : List ℕ) (fault : ImageFault) (image : ImageParts) → image_of bytes ≡ Err fault → ¬ Spells bytes image
unread bytes fault image refused spelled =
    let read : image_of bytes ≡ read_as image = image_again bytes image spelled in
    let e : Err fault ≡ read_as image = sym refused ∙ read in
    absurd (cc)

-- Bytes spell at most one image.
abbrev pub OneImage : Type 0
OneImage = (bytes : List ℕ) (image other : ImageParts) → Spells bytes image → Spells bytes other → image ≡ other

-- A check that fails in one image that bytes spell fails in each of them.
failed : OneImage → (bytes : List ℕ) (fault : VerifyFault) → ((found : ImageParts) × Spells bytes found × Fails fault found) → (image : ImageParts) → Spells bytes image → ¬ IsAccepted image
failed one bytes fault refused image spelled accepted =
    fails_of_accepted fault refused.0 (subst IsAccepted (one bytes image refused.0 spelled refused.1) accepted) refused.2

pub refused_are_not_accepted : OneImage → RefusedAreNotAccepted
refused_are_not_accepted one bytes OutOfMemory refused other image spelled = absurd (other refl)
refused_are_not_accepted one bytes (NoImage fault) refused other image spelled = absurd (unread bytes fault image refused spelled)
refused_are_not_accepted one bytes fault refused other image spelled = failed one bytes fault refused image spelled
