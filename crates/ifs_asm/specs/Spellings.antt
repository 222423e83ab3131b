-- Which texts spell an image: its lines in their order, each by its words.
use Rattle.std.specs.Prelude.{ℕ, ◌≡◌, ◌≤◌, ◌<◌, ◌/◌, ◌%◌, ◌==◌, ◌&&◌, ◌||◌, not, nat_lt, Bool}
use Rattle.std.specs.Prelude.{true, if◌then◌else◌, List, [], ◌∷◌, ◌++◌, codes, filter, Some}
use Rattle.std.specs.List.{slice_split, AllZip, AllByRecursion}
use Rattle.ifs_base.specs.Words.{hex_digit, listed}
use Rattle.ifs_base.specs.Numbers.{number_of}
use Rattle.ifs_image.specs.declared.parts.ImageParts.{ImageParts}
use Rattle.ifs_image.specs.Limits.{Fits, InRange}
use Rattle.ifs_asm.specs.declared.line.Line.{Line}
use Rattle.ifs_asm.specs.Texts.{Word, Key, Number, Quoted, Tests, tests_of, words_of, lines_of}

-- A space or a tab.
abbrev pub is_space_or_tab : ℕ → Bool
is_space_or_tab byte = (byte == 32) || (byte == 9)

-- A plain byte needs no escape in quotes: it is no control character, no quote and no backslash.
abbrev pub is_plain : ℕ → Bool
is_plain byte = not (nat_lt byte 32) && not (byte == 127) && not (byte == 34) && not (byte == 92)

-- A plain byte stands for itself in quotes. A backslash comes before a quote or a backslash. Any character from 1 to 127 may be
-- given by its two hexadecimal digits in lower case.
pub data StandsForByte (byte : ℕ) (bytes : List ℕ) : Type 0 where
  itself : is_plain byte ≡ true → bytes ≡ byte ∷ [] → StandsForByte byte bytes
  escaped : ((byte == 34) || (byte == 92)) ≡ true → bytes ≡ 92 ∷ byte ∷ [] → StandsForByte byte bytes
  hexadecimal : 1 ≤ byte → byte < 128 → bytes ≡ 92 ∷ 120 ∷ hex_digit (byte / 16) ∷ hex_digit (byte % 16) ∷ [] → StandsForByte byte bytes

-- Bytes begin with a spelling of a byte, and the others have a property.
pub record BeginsWith (byte : ℕ) (Others : List ℕ → Type 0) (bytes : List ℕ) : Type 0 where
  pub front : List ℕ
  pub rest : List ℕ
  pub stands : StandsForByte byte front
  pub others : Others rest
  pub whole : bytes ≡ front ++ rest

-- Bytes between quotes spell a text, byte by byte.
abbrev pub StandFor : List ℕ → List ℕ → Type 0
StandFor [] bytes = bytes ≡ []
StandFor (byte ∷ text) bytes = BeginsWith byte (StandFor text) bytes

-- Bytes are a quoted text.
pub record IsQuoted (text bytes : List ℕ) : Type 0 where
  pub inside : List ℕ
  pub stand : StandFor text inside
  pub whole : bytes ≡ 34 ∷ (inside ++ codes "\"")

-- Bytes are numbers in digits with commas between them, or a dash if there is none.
pub record IsList (numbers : List ℕ) (bytes : List ℕ) : Type 0 where
  pub parts : List (List ℕ)
  pub each : AllZip (λ part n. number_of part ≡ Some n) parts numbers
  pub whole : bytes ≡ listed parts

-- Bytes are a spelling of a word. A number may have leading zeros.
abbrev pub IsSpelling : Word → List ℕ → Type 0
IsSpelling (Key text) bytes = bytes ≡ text
IsSpelling (Number n) bytes = number_of bytes ≡ Some n
IsSpelling (Quoted text) bytes = IsQuoted text bytes
IsSpelling (Tests mask) bytes = IsList (tests_of mask) bytes

-- A word ends before these bytes: there are none, or the first is a blank.
abbrev pub EndsWord : List ℕ → Type 0
EndsWord [] = Unit {0}
EndsWord (byte ∷ bytes) = is_space_or_tab byte ≡ true

-- Bytes begin, after any blanks, with a spelling of a word, and the bytes after the word have a property.
pub record FirstWord (word : Word) (Others : List ℕ → Type 0) (bytes : List ℕ) : Type 0 where
  pub gap : List ℕ
  pub first : List ℕ
  pub rest : List ℕ
  pub blank : AllByRecursion (λ byte. is_space_or_tab byte ≡ true) gap
  pub spelling : IsSpelling word first
  pub ends : EndsWord rest
  pub others : Others rest
  pub whole : bytes ≡ gap ++ (first ++ rest)

-- Bytes have these words, with blanks around them.
abbrev pub HaveWords : List Word → List ℕ → Type 0
HaveWords [] bytes = AllByRecursion (λ byte. is_space_or_tab byte ≡ true) bytes
HaveWords (word ∷ words) bytes = FirstWord word (HaveWords words) bytes

-- Bytes without a newline say a line.
abbrev pub SaysLine : List ℕ → Line → Type 0
SaysLine bytes line = HaveWords (words_of line) bytes

-- An empty line or a comment: after any blanks there is nothing or a semicolon.
abbrev pub is_silent : List ℕ → Bool
is_silent [] = true
is_silent (byte ∷ bytes) = if is_space_or_tab byte then is_silent bytes else byte == 59

-- The lines of a text that are neither empty nor comments. The text is split at newlines.
unfoldable pub spoken : List ℕ → List (List ℕ)
spoken text = filter (λ bytes. not (is_silent bytes)) (slice_split (λ byte. byte == 10) text)

-- A text spells an image: the image is within its limits, and the lines that are neither empty nor comments say its lines.
pub record TextSpells (text : List ℕ) (p : ImageParts) : Type 0 where
  pub fits : Fits p
  pub in_range : InRange p
  pub says : AllZip SaysLine (spoken text) (lines_of p)
