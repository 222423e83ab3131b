-- Contracts of the functions that read a request line or a digit.
use Rattle.std.specs.Prelude.{◌≡◌, ◌≢◌, ℕ, ◌+◌, ◌<◌, ◌≤◌, ◌==◌, Bool, false, nat_lt, if◌then◌else◌, List, [], ◌∷◌, ◌++◌}
use Rattle.std.specs.Prelude.{length, take, All, Option, Some, None, option_and_then, Result, Ok, Err}
use Rattle.std.specs.List.{position}
use Rattle.std.specs.Io.KnownBytes.{Keeps, Consumes, IsAtEnd}
use Rattle.ifs_session.specs.declared.fault.SessionFault.{SessionFault}
use Rattle.ifs_session.specs.declared.fault.SessionFault.TheVariants.{ReadFailed, WriteFailed, TooMuchInput}
use Rattle.ifs_session.specs.declared.hexadecimal.HexFault.{HexFault}
use Rattle.ifs_session.specs.declared.hexadecimal.HexFault.TheVariants.{Broken, Memory, NotRead}
use Rattle.ifs_session.specs.declared.lines.Line.{Line}
use Rattle.ifs_session.specs.Device.{counted, Feed}
use Rattle.ifs_base.specs.Words.{hex_digit, IsNoDigit}
use Rattle.ifs_session.specs.Lines.{line_end}
use Rattle.ifs_session.specs.Hexadecimal.{Takes, EndsAt, hex_text, HexGives}

-- A text has no newline.
abbrev pub HasNoNewline : List ℕ → Type 0
HasNoNewline [] = Unit {0}
HasNoNewline (byte ∷ text) = (byte ≢ 10) × HasNoNewline text

-- The bytes left and the number of failures of a reader, if it reports them, and the budget of bytes.
pub record Intake : Type 0 where
  pub left : Option (List ℕ)
  pub faults : Option ℕ
  pub budget : ℕ

-- A line with this text was read. A line that no newline ends has at least one byte, and is the end of the input.
pub record ReadsText (text : List ℕ) (ended : Bool) (before after : Intake) : Type 0 where
  pub plain : HasNoNewline text
  pub given : Consumes before.left after.left (text ++ line_end ended)
  pub spent : before.budget ≡ length (text ++ line_end ended) + after.budget
  pub same_faults : after.faults ≡ before.faults
  pub last : ended ≡ false → (0 < length text) × IsAtEnd after.left

-- A line was read, and the first 256 bytes of its text are kept.
pub record ReadsLine (line : Line) (text : List ℕ) (before after : Intake) : Type 0 where
  pub read : ReadsText text line.is_ended before after
  pub kept : line.kept.items ≡ take 256 text
  pub longer : line.is_longer ≡ nat_lt 256 (length text)

-- These bytes begin with a whole line of at most `most` bytes with its newline.
pub record StandsFirst (line : List ℕ) (most : ℕ) (bytes : List ℕ) : Type 0 where
  pub plain : HasNoNewline line
  pub within : length line < most
  pub rest : List ℕ
  pub front : bytes ≡ line ++ 10 ∷ rest

-- The whole line that these bytes begin with, of at most `most` bytes with its newline.
abbrev pub first_line : ℕ → List ℕ → Option (List ℕ)
first_line most bytes = option_and_then (λ end. if nat_lt end most then Some (take end bytes) else None) (position (λ byte. byte == 10) bytes)

-- The input ended.
pub record ReadsNothing (before after : Intake) : Type 0 where
  pub at_end : IsAtEnd after.left
  pub same : Keeps before.left after.left
  pub same_budget : after.budget ≡ before.budget
  pub same_faults : after.faults ≡ before.faults

-- A read failed after this text, the beginning of a line.
pub record ReadFails (text : List ℕ) (before after : Intake) : Type 0 where
  pub plain : HasNoNewline text
  pub given : Consumes before.left after.left text
  pub within : length text ≤ before.budget
  pub one_fault : after.faults ≡ counted before.faults

-- A byte was read after this text, the beginning of a line, which spent the budget.
pub record ReadsTooMuch (text : List ℕ) (byte : ℕ) (before after : Intake) : Type 0 where
  pub plain : HasNoNewline text
  pub given : Consumes before.left after.left (text ++ byte ∷ [])
  pub spent : length text ≡ before.budget
  pub same_faults : after.faults ≡ before.faults

-- The result of reading the next line.
abbrev pub LineGives : Result (Option Line) SessionFault → Intake → Intake → Type 0
LineGives (Ok (Some line)) before after = (text : List ℕ) × ReadsLine line text before after
LineGives (Ok None) before after = ReadsNothing before after
LineGives (Err ReadFailed) before after = (text : List ℕ) × ReadFails text before after
LineGives (Err TooMuchInput) before after = (text : List ℕ) × (byte : ℕ) × ReadsTooMuch text byte before after
LineGives (Err WriteFailed) before after = ⊥

-- The result of reading a digit: the digit, or none at the end of the line.
abbrev pub DigitGives : Result (Option ℕ) HexFault → Feed → Feed → Type 0
DigitGives (Ok (Some digit)) before after = (digit < 16) × Takes (hex_digit digit ∷ []) before after
DigitGives (Ok None) before after = (ended : Bool) × Takes (line_end ended) before after × EndsAt ended after
DigitGives (Err Broken) before after = (byte : ℕ) × Takes (byte ∷ []) before after × IsNoDigit byte × (byte ≢ 10)
DigitGives (Err NotRead) before after = Keeps before.left after.left × (after.faults ≡ counted before.faults)
DigitGives (Err Memory) before after = ⊥

-- The first `count` digits of a text spell bytes, which were appended, up to the limit.
pub record SpellsFront (text : List ℕ) (count : ℕ) (bytes bytes' : List ℕ) : Type 0 where
  pub more : List ℕ
  pub are_bytes : All (λ byte. byte < 256) more
  pub appended : bytes' ≡ bytes ++ more
  pub within : length bytes' ≤ 65536
  pub count_fits : count ≤ length text
  pub spelled : take count text ≡ hex_text more

-- The result of reading the bytes whose digits are at hand: they were appended. If an allocation failed, nothing was read.
abbrev pub AtHandGives : Result (Unit {0}) HexFault → List ℕ → List ℕ → Feed → Feed → Type 0
AtHandGives (Ok _) bytes bytes' before after =
    (more : List ℕ) × All (λ byte. byte < 256) more × (bytes' ≡ bytes ++ more) × (length bytes' ≤ 65536) × Takes (hex_text more) before after
AtHandGives (Err Memory) bytes bytes' before after = after ≡ before
AtHandGives (Err Broken) bytes bytes' before after = ⊥
AtHandGives (Err NotRead) bytes bytes' before after = ⊥

-- The result of reading an image's line into a vector: the bytes that it spells, or why there are none.
abbrev pub LineSpells : Result (Unit {0}) HexFault → List ℕ → Feed → Feed → Type 0
LineSpells (Ok _) bytes before after = HexGives (Ok bytes) before after
LineSpells (Err fault) bytes before after = HexGives (Err fault) before after
