-- Lines: how input is split.
use Rattle.std.specs.Prelude.{ℕ, Bool, true, false, ◌==◌, if◌then◌else◌, List, [], ◌∷◌}
use Rattle.std.specs.List.{onto_first}

-- The lines of an input. It is split at newlines, and a rest of at least one byte is a line too.
abbrev pub input_lines : List ℕ → List (List ℕ)
input_lines [] = []
input_lines (byte ∷ input) = if byte == 10 then [] ∷ input_lines input else onto_first byte (input_lines input)

-- Lines with a byte before the first line, if there is one.
abbrev pub onto_line : ℕ → List (List ℕ) → List (List ℕ)
onto_line byte [] = []
onto_line byte (line ∷ lines) = (byte ∷ line) ∷ lines

-- The lines of an input that a newline ends.
abbrev pub whole_lines : List ℕ → List (List ℕ)
whole_lines [] = []
whole_lines (byte ∷ input) = if byte == 10 then [] ∷ whole_lines input else onto_line byte (whole_lines input)

-- What ends a line: a newline, or nothing at the end of input.
abbrev pub line_end : Bool → List ℕ
line_end true = 10 ∷ []
line_end false = []
