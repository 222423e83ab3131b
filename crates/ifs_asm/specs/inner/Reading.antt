-- What holds while the lines of a text are read.
use Rattle.std.specs.Prelude.{ℕ, ◌≡◌, ◌+◌, ◌≤◌, List, ◌++◌, length, true, false, Option, Some}
use Rattle.ifs_asm.specs.declared.fault.AsmFault.{AsmFault}
use Rattle.ifs_asm.specs.declared.fault.AsmFault.TheVariants as told
use Rattle.ifs_asm.specs.declared.fault.LineFault.{LineFault}
use Rattle.ifs_asm.specs.declared.fault.LineFault.TheVariants.{Unknown, OutOfRange, OutOfOrder, Memory}
use Rattle.ifs_asm.specs.declared.line.Line.{Line}
use Rattle.ifs_asm.specs.Refused.{text_lines, speaking}
use Rattle.ifs_asm.specs.inner.Building.{Built, has_no_form, is_full, built_by, nothing}

-- The lines before the rest of a text built this, and the next line has the number after theirs. Each had a byte or more.
pub record AreRead (text left : List ℕ) (b : Built) (number : ℕ) : Type 0 where
  pub done : List (List ℕ)
  pub cut : text_lines text ≡ done ++ text_lines left
  pub number_is : number ≡ length done + 1
  pub within : number + length left ≤ length text + 1
  pub built : built_by nothing (speaking done) ≡ Some b

-- A fault at a line.
abbrev pub fault_at : LineFault → ℕ → AsmFault
fault_at Unknown number = told.Unknown number
fault_at OutOfRange number = told.OutOfRange number
fault_at OutOfOrder number = told.OutOfOrder number
fault_at Memory number = told.Memory

-- What a fault says of the line that was read, if there is one, and of the lines before it.
abbrev pub Blames : Built → Option Line → LineFault → Type 0
Blames b read Unknown = (line : Line) → read ≡ Some line → has_no_form b line ≡ true
Blames b read OutOfRange = (line : Line) → read ≡ Some line → (has_no_form b line ≡ false) × (is_full b line ≡ true)
Blames b read OutOfOrder = (line : Line) × (read ≡ Some line) × (has_no_form b line ≡ false) × (is_full b line ≡ false)
Blames b read Memory = Unit {0}
