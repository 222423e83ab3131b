-- The lines of a file that were read so far.
use Rattle.std.specs.Prelude.{◌≡◌, ◌≤◌, ◌+◌, ◌++◌, ℕ, List, length}
use Rattle.ifs_policy.specs.declared.tables.Tables.{Tables}
use Rattle.ifs_claim_parse.specs.declared.stated.Stated.{Stated}
use Rattle.ifs_claim_parse.specs.Files.{AreClaims, LineStates, NamesOfAllAreIn}

-- A line adds the claims that it states.
pub record AddsLine (macros : List ℕ) (defs : List (List ℕ × List ℕ)) (tables : Tables) (number at : ℕ) (line : List ℕ) (before after : List Stated) : Type 0 where
  pub found : List Stated
  pub added : after ≡ before ++ found
  pub states : LineStates macros defs tables number at line found
  pub few : length after ≤ 1024

-- Claims were read from the lines before what is left of a text: whatever the lines that are left state comes after them.
pub record AreRead (macros : List ℕ) (defs : List (List ℕ × List ℕ)) (tables : Tables) (text : List ℕ) (number at : ℕ) (left : List ℕ) (read : List Stated) : Type 0 where
  pub whole : (others : List Stated) → AreClaims macros defs tables number at left others → AreClaims macros defs tables 1 0 text (read ++ others)
  pub names : NamesOfAllAreIn tables read
  pub few : length read ≤ 1024
  pub numbered : number ≤ at + 1
  pub place : at + length left ≡ length text
