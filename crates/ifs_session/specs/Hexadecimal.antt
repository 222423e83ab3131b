-- Images that are written as a line of hexadecimal digits.
use Rattle.std.specs.Prelude.{◌≡◌, ◌≢◌, ℕ, ◌/◌, ◌%◌, ◌<◌, ◌≤◌, Bool, true, false, List, [], ◌∷◌, ◌++◌, length, All}
use Rattle.std.specs.Prelude.{Option, Some, None, Result, Ok, Err}
use Rattle.std.specs.Io.KnownBytes.{Consumes, IsAtEnd}
use Rattle.ifs_session.specs.declared.hexadecimal.HexFault.{HexFault}
use Rattle.ifs_session.specs.declared.hexadecimal.HexFault.TheVariants.{Broken, Memory, NotRead}
use Rattle.ifs_session.specs.Device.{Feed, counted}
use Rattle.ifs_session.specs.Lines.{line_end}
use Rattle.ifs_base.specs.Words.{hex_digit, IsNoDigit}

-- The hexadecimal digits of bytes, two each, the high one first.
abbrev pub hex_text : List ℕ → List ℕ
hex_text [] = []
hex_text (byte ∷ bytes) = hex_digit (byte / 16) ∷ hex_digit (byte % 16) ∷ hex_text bytes

-- These bytes were read, and no read failed.
pub record Takes (text : List ℕ) (before after : Feed) : Type 0 where
  pub given : Consumes before.left after.left text
  pub same_faults : after.faults ≡ before.faults

-- A line ends: with a newline, or at the end of input.
abbrev pub EndsAt : Bool → Feed → Type 0
EndsAt true after = Unit {0}
EndsAt false after = IsAtEnd after.left

-- The high digit of a byte without its low digit, if there is one.
abbrev pub high_digit : Option ℕ → List ℕ
high_digit None = []
high_digit (Some digit) = hex_digit digit ∷ []

-- A high digit may follow this number of whole bytes: it is a digit, and another byte is within the limit.
abbrev pub MayBegin : ℕ → Option ℕ → Type 0
MayBegin whole None = Unit {0}
MayBegin whole (Some digit) = (digit < 16) × (whole < 65536)

-- The beginning of an image's line spells at most 65,536 whole bytes, and perhaps the high digit of another.
pub record LineBegins (bytes : List ℕ) (high : Option ℕ) : Type 0 where
  pub are_bytes : All (λ byte. byte < 256) bytes
  pub within : length bytes ≤ 65536
  pub begun : MayBegin (length bytes) high

-- The text of such a beginning.
abbrev pub begun_text : List ℕ → Option ℕ → List ℕ
begun_text bytes high = hex_text bytes ++ high_digit high

-- The beginning of an image's line was read, and no more.
pub record ReadsBeginning (bytes : List ℕ) (high : Option ℕ) (before after : Feed) : Type 0 where
  pub begins : LineBegins bytes high
  pub takes : Takes (begun_text bytes high) before after

-- Why the text after such a beginning makes the line invalid: it is no digit and no newline, or the line ends after a high digit, or it is a digit after 131,072 digits.
pub data BreaksRule (whole : ℕ) (high : Option ℕ) (last : List ℕ) (after : Feed) : Type 0 where
  NoDigit : (byte : ℕ) → last ≡ byte ∷ [] → IsNoDigit byte → byte ≢ 10 → BreaksRule whole high last after
  OddDigit : (digit : ℕ) (ended : Bool) → high ≡ Some digit → last ≡ line_end ended → EndsAt ended after → BreaksRule whole high last after
  DigitTooMany : (digit : ℕ) → high ≡ None → whole ≡ 65536 → digit < 16 → last ≡ hex_digit digit ∷ [] → BreaksRule whole high last after

-- An invalid line was read up to what makes it invalid, and no further.
pub record ReadsBroken (bytes : List ℕ) (high : Option ℕ) (last : List ℕ) (before after : Feed) : Type 0 where
  pub begins : LineBegins bytes high
  pub takes : Takes (begun_text bytes high ++ last) before after
  pub breaks : BreaksRule (length bytes) high last after

-- A valid line was read, and no more.
pub record ReadsBytes (bytes : List ℕ) (ended : Bool) (before after : Feed) : Type 0 where
  pub are_bytes : All (λ byte. byte < 256) bytes
  pub within : length bytes ≤ 65536
  pub takes : Takes (hex_text bytes ++ line_end ended) before after
  pub ends : EndsAt ended after

-- A read failed after the beginning of an image's line.
pub record ReadingBreaksOff (bytes : List ℕ) (high : Option ℕ) (before after : Feed) : Type 0 where
  pub begins : LineBegins bytes high
  pub given : Consumes before.left after.left (begun_text bytes high)
  pub one_fault : after.faults ≡ counted before.faults

-- The result of reading an image's line: the bytes that it spells, or why it gives none. An allocation may fail after any whole byte.
abbrev pub HexGives : Result (List ℕ) HexFault → Feed → Feed → Type 0
HexGives (Ok bytes) before after = (ended : Bool) × ReadsBytes bytes ended before after
HexGives (Err Broken) before after = (bytes : List ℕ) × (high : Option ℕ) × (last : List ℕ) × ReadsBroken bytes high last before after
HexGives (Err NotRead) before after = (bytes : List ℕ) × (high : Option ℕ) × ReadingBreaksOff bytes high before after
HexGives (Err Memory) before after = (bytes : List ℕ) × ReadsBeginning bytes None before after

-- No first line is both valid and invalid.
abbrev pub OneAnswer : Type 0
OneAnswer = (text bytes : List ℕ) (before after other : Feed) → before.left ≡ Some text → HexGives (Ok bytes) before after → HexGives (Err Broken) before other → ⊥
