-- The lines that are printed.
use Rattle.std.specs.Prelude.{ℕ, List, ◌++◌, length, codes, decimal}
use Rattle.std.specs.List.{flat_map}
use Rattle.ifs_image.specs.declared.parts.Budgets.{Budgets}
use Rattle.ifs_policy.specs.declared.tables.Tables.{Tables}

-- The line of an image's budgets.
abbrev pub budgets_line : Budgets → List ℕ
budgets_line budgets =
    codes "ok stack " ++ (decimal budgets.stack ++ (codes " frames " ++ (decimal budgets.frames
    ++ (codes " cost " ++ (decimal budgets.cost ++ (codes " commands " ++ (decimal budgets.commands ++ codes "\n")))))))

-- The line of a file of this size in bytes.
abbrev pub size_line : ℕ → List ℕ
size_line size = codes "ok " ++ (decimal size ++ codes " bytes\n")

-- The line of a note on a line of a policy.
abbrev pub note_line : ℕ → List ℕ
note_line line = codes "note line " ++ (decimal line ++ codes ": || and && without parentheses\n")

-- The lines of notes.
abbrev pub note_lines : List ℕ → List ℕ
note_lines notes = flat_map note_line notes

-- The line of the numbers of names and texts of a policy.
abbrev pub counts_line : Tables → List ℕ
counts_line tables =
    codes "ok " ++ (decimal (length tables.interfaces) ++ (codes " interfaces " ++ (decimal (length tables.tests)
    ++ (codes " tests " ++ (decimal (length tables.commands) ++ (codes " commands " ++ (decimal (length tables.states) ++ codes " states\n")))))))

-- The line of a refusal with these words.
abbrev pub refusal_line : List ℕ → List ℕ
refusal_line words = codes "refused " ++ (words ++ codes "\n")
