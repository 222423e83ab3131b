-- Policies as their texts say them.
use Rattle.std.specs.Prelude.{ℕ, List}
use Rattle.ifs_parse.specs.declared.tree.Item.{Item}

-- The items of a policy in text order, and the lines of its notes.
pub record File : Type 0 where
  pub items : List Item
  pub notes : List ℕ

abbrev pub file : List Item → List ℕ → File
file items notes = record { items = items; notes = notes }
