-- The first fault of bytes that spell no image: up to where they begin a spelling, and what is wrong there.
use Rattle.std.specs.Prelude.{ℕ, ◌≡◌, ◌≢◌, ◌+◌, ◌<◌, ◌≤◌, ◌⊎◌, List, ◌∷◌, ◌++◌, length, take, drop, All, IsUtf8}
use Rattle.std.specs.Int.{w16, to_be_bytes}
use Rattle.ifs_image.specs.declared.fault.ImageFault.{ImageFault}
use Rattle.ifs_image.specs.declared.fault.ImageFault.TheVariants.{Truncated, WrongMagic, WrongVersion, OutOfLimit}
use Rattle.ifs_image.specs.declared.fault.ImageFault.TheVariants.{BadText, RepeatedName, Trailing, NoInstruction}
use Rattle.ifs_image.specs.declared.parts.ImageParts.{ImageParts}
use Rattle.ifs_image.specs.Limits.{Fits, InRange}
use Rattle.ifs_image.specs.Spelling.{image_bytes, Spells}
use Rattle.ifs_image.specs.Fields.{FieldKind, Magic, Version, Number, Text, Name, Instruction, Field, field, bytes_of, image_fields}

-- ---- the bytes of a field

-- Bytes are UTF-8 without a NUL.
pub record IsText (bytes : List ℕ) : Type 0 where
  pub utf8 : IsUtf8 bytes
  pub no_nul : All (λ byte. byte ≢ 0) bytes

-- Bytes begin with the length of a text, which is from 1 to 1,024.
pub record SaysLength (bytes : List ℕ) (n : ℕ) : Type 0 where
  pub least : 1 ≤ n
  pub most : n ≤ 1024
  pub bytes_are : take 2 bytes ≡ to_be_bytes w16 n

-- Bytes are a length and so many bytes.
pub record HasLength (bytes : List ℕ) : Type 0 where
  pub n : ℕ
  pub says : SaysLength bytes n
  pub length_is : length bytes ≡ 2 + n

-- The bytes that a field of a kind has.
abbrev pub HasShape : FieldKind → List ℕ → Type 0
HasShape Magic bytes = length bytes ≡ 4
HasShape Version bytes = length bytes ≡ 1
HasShape (Number width) bytes = (1 ≤ width) × (length bytes ≡ width)
HasShape Text bytes = HasLength bytes
HasShape Name bytes = HasLength bytes
HasShape Instruction bytes = length bytes ≡ 4

-- A field of this kind begins at an offset of the bytes of fields.
pub record StandsAt (fields : List Field) (at : ℕ) (kind : FieldKind) : Type 0 where
  pub before : List Field
  pub bytes : List ℕ
  pub after : List Field
  pub fields_are : fields ≡ before ++ field kind bytes ∷ after
  pub at_is : length (bytes_of before) ≡ at
  pub shape : HasShape kind bytes

-- ---- bytes that begin a spelling

-- Bytes begin the spelling of an image.
pub record Begins (bytes : List ℕ) (image : ImageParts) : Type 0 where
  pub fits : Fits image
  pub in_range : InRange image
  pub more : List ℕ
  pub bytes_are : image_bytes image ≡ bytes ++ more

-- The bytes before an offset begin the spelling of an image, and each image that they begin has a field of this kind at the offset.
pub record ComesTo (bytes : List ℕ) (at : ℕ) (kind : FieldKind) : Type 0 where
  pub inside : at ≤ length bytes
  pub image : ImageParts
  pub begins : Begins (take at bytes) image
  pub each : (other : ImageParts) → Begins (take at bytes) other → StandsAt (image_fields other) at kind

-- ---- the faults

-- Of a field of so many bytes at an offset not all are there.
abbrev pub IsShort : ℕ → ℕ → List ℕ → ImageFault → Type 0
IsShort width at left fault = (length left < width) × (fault ≡ Truncated at)

-- The bytes of a text end within its length, or after it. Then the fault is at the text itself.
pub record IsShortText (at : ℕ) (left : List ℕ) (fault : ImageFault) : Type 0 where
  pub n : ℕ
  pub says : SaysLength left n
  pub short : length left < 2 + n
  pub fault_is : fault ≡ Truncated (at + 2)

-- Not all bytes of a field of this kind at an offset are there. The bytes from the offset on are given.
abbrev pub IsCut : FieldKind → ℕ → List ℕ → ImageFault → Type 0
IsCut Magic at left fault = IsShort 4 at left fault
IsCut Version at left fault = IsShort 1 at left fault
IsCut (Number width) at left fault = IsShort width at left fault
IsCut Text at left fault = IsShort 2 at left fault ⊎ IsShortText at left fault
IsCut Name at left fault = IsShort 2 at left fault ⊎ IsShortText at left fault
IsCut Instruction at left fault = IsShort 4 at left fault

-- The fault that the first bytes of a field show, so many of them.
abbrev pub IsShown : ℕ → ImageFault → ImageFault → ℕ → Type 0
IsShown width reason fault shown = (fault ≡ reason) × (shown ≡ width)

-- A text's length is 0 or over 1,024.
pub record HasNoLength (at : ℕ) (left : List ℕ) (fault : ImageFault) (shown : ℕ) : Type 0 where
  pub none : (n : ℕ) → ¬ SaysLength left n
  pub is : IsShown 2 (BadText at) fault shown

-- The bytes after the length are no text.
pub record HasNoText (at : ℕ) (left : List ℕ) (fault : ImageFault) (shown : ℕ) : Type 0 where
  pub n : ℕ
  pub says : SaysLength left n
  pub no_text : ¬ IsText (take n (drop 2 left))
  pub is : IsShown (2 + n) (BadText (at + 2)) fault shown

-- They are a text, which an earlier name of the table is, too: no image has it here.
pub record HasRepeatedName (at : ℕ) (left : List ℕ) (fault : ImageFault) (shown : ℕ) : Type 0 where
  pub n : ℕ
  pub says : SaysLength left n
  pub text : IsText (take n (drop 2 left))
  pub is : IsShown (2 + n) (RepeatedName (at + 2)) fault shown

-- What is wrong with a field of this kind at an offset, and how many of its bytes show it. The bytes from the offset on are given.
abbrev pub IsWrong : FieldKind → ℕ → List ℕ → ImageFault → ℕ → Type 0
IsWrong Magic at left fault shown = IsShown 4 (WrongMagic at) fault shown
IsWrong Version at left fault shown = IsShown 1 (WrongVersion at) fault shown
IsWrong (Number width) at left fault shown = IsShown width (OutOfLimit at) fault shown
IsWrong Text at left fault shown = HasNoLength at left fault shown ⊎ HasNoText at left fault shown
IsWrong Name at left fault shown = HasNoLength at left fault shown ⊎ (HasNoText at left fault shown ⊎ HasRepeatedName at left fault shown)
IsWrong Instruction at left fault shown = IsShown 4 (NoInstruction at) fault shown

-- Bytes come to a field, and end within it.
pub record EndsWithin (bytes : List ℕ) (fault : ImageFault) : Type 0 where
  pub at : ℕ
  pub kind : FieldKind
  pub comes : ComesTo bytes at kind
  pub cut : IsCut kind at (drop at bytes) fault

-- Bytes come to a field. With so many bytes of it they begin no image.
pub record GoesWrong (bytes : List ℕ) (fault : ImageFault) : Type 0 where
  pub at : ℕ
  pub kind : FieldKind
  pub shown : ℕ
  pub comes : ComesTo bytes at kind
  pub wrong : IsWrong kind at (drop at bytes) fault shown
  pub inside : at + shown ≤ length bytes
  pub never : (image : ImageParts) → ¬ Begins (take (at + shown) bytes) image

-- Bytes go on after the spelling of an image.
pub record GoesOn (bytes : List ℕ) (fault : ImageFault) : Type 0 where
  pub at : ℕ
  pub image : ImageParts
  pub spells : Spells (take at bytes) image
  pub more : at < length bytes
  pub fault_is : fault ≡ Trailing at

-- The first fault of bytes.
abbrev pub IsFirstFault : List ℕ → ImageFault → Type 0
IsFirstFault bytes fault = EndsWithin bytes fault ⊎ (GoesWrong bytes fault ⊎ GoesOn bytes fault)
