-- The limit of files.
use Rattle.std.specs.Prelude.{ℕ, ◌≤◌, List, length}

-- Bytes are within the limit of a file.
abbrev pub IsWithinLimit : List ℕ → Type 0
IsWithinLimit bytes = length bytes ≤ 16777216
