-- Definitions of macros as bytes: words `NAME=VALUE`, each with a NUL behind it.
use Rattle.std.specs.Prelude.{ℕ, ◌≢◌, ◌<◌, List, [], ◌∷◌, ◌++◌, length, slice_index}
use Rattle.std.specs.Str.{IsUtf8}
use Rattle.ifs_command_line.specs.Definitions.{Defines}

-- A word has no NUL in it.
abbrev pub IsWord : List ℕ → Type 0
IsWord word = (i : ℕ) → i < length word → slice_index word i ≢ 0

-- Bytes give names and values, in order.
pub data Gives : List ℕ → List (List ℕ × List ℕ) → Type 0 where
  -- no bytes give none
  nothing : Gives [] []
  -- and a word that defines a name, a NUL and further bytes give that name, and then what the further bytes give
  then : (word name value rest : List ℕ) (defs : List (List ℕ × List ℕ)) → IsWord word → Defines word name value → Gives rest defs
      → Gives (word ++ 0 ∷ rest) ((name, value) ∷ defs)

-- Bytes are definitions: they are UTF-8, and give names and values.
pub record AreDefinitions (bytes : List ℕ) : Type 0 where
  pub utf8 : IsUtf8 bytes
  pub defs : List (List ℕ × List ℕ)
  pub gives : Gives bytes defs
