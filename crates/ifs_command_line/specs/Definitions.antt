-- Words that define macros on the command line.
use Rattle.std.specs.Prelude.{ℕ, ◌≡◌, true, List, ◌∷◌, ◌++◌}
use Rattle.ifs_lex.specs.Characters.{is_macro_name}

-- A word gives a name a value: it is the name, an equals sign and the value, and the name is a macro name.
pub record Defines (word name value : List ℕ) : Type 0 where
  pub parted : word ≡ name ++ 61 ∷ value
  pub named : is_macro_name name ≡ true
