-- Places in a text, and the lines that they are on.
use Rattle.std.specs.Prelude.{ℕ, ◌≡◌, ◌+◌, ◌≤◌, ◌<◌, ◌==◌, List, length, take, Option, Some, None}
use Rattle.std.specs.List.{count_by}
use Rattle.ifs_asm.specs.declared.fault.AsmFault.{AsmFault}
use Rattle.ifs_asm.specs.declared.fault.AsmFault.TheVariants.{Unknown, OutOfRange, OutOfOrder, Memory}

-- The line of a place, counted from 1: one more than the newlines before it.
abbrev pub line_at : List ℕ → ℕ → ℕ
line_at text place = count_by (λ byte. byte == 10) (take place text) + 1

-- The last line of a text. It is empty if the text ends with a newline.
abbrev pub last_line : List ℕ → ℕ
last_line text = line_at text (length text)

-- A text has a line of this number.
abbrev pub HasLine : List ℕ → ℕ → Type 0
HasLine text line = (1 ≤ line) × (line ≤ last_line text)

-- A part lies within a text, and begins and ends on a line. If the line comes after the last one, the part is the end of the text.
pub record LiesOn (text : List ℕ) (line start end : ℕ) : Type 0 where
  pub forward : start ≤ end
  pub inside : end ≤ length text
  pub begins : HasLine text line → line_at text start ≡ line
  pub ends : HasLine text line → line_at text end ≡ line
  pub after_last : last_line text < line → start ≡ length text

-- The line that a fault names.
abbrev pub line_of : AsmFault → Option ℕ
line_of (Unknown line) = Some line
line_of (OutOfRange line) = Some line
line_of (OutOfOrder line) = Some line
line_of Memory = None
