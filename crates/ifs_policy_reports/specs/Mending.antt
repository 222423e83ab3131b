-- Texts that hints make.
use Rattle.std.specs.Prelude.{ℕ, List, ◌++◌, take, drop}
use Rattle.ifs_parse.specs.Files.{File}
use Rattle.ifs_policy.specs.Texts.{SaysFile}
use Rattle.ifs_report.specs.declared.reports.Part.{Part}

-- A text follows the grammar: its tokens say a file.
abbrev pub Follows : List ℕ → List (List ℕ × List ℕ) → Type 0
Follows text defs = (file : File) × SaysFile text defs file

-- The text that has a word in the place of one of its parts.
abbrev pub changed : List ℕ → Part → List ℕ → List ℕ
changed text part word = take part.start text ++ word ++ drop part.end text
