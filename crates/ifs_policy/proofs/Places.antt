-- The places in chains and blocks are those in their members.
use Rattle.std.proofs.Common.{◌≡◌, ℕ, ◌≤◌, Bool, List, []}
use Rattle.std.proofs.Common.{◌∷◌, map, length, refl, ap, ◌∙◌, not}
use Rattle.std.proofs.lemmas.List.Sums.{prefix_len-le-length}
use Rattle.std.specs.List.{position_or_len}
use Rattle.ifs_parse.specs.Trees as tree
use Rattle.ifs_parse.specs.Views.{block_of, statement_then}
use Rattle.ifs_parse.specs.declared.tree.Name.{Name}
use Rattle.ifs_parse.specs.declared.tree.Test.{Test}
use Rattle.ifs_parse.specs.declared.tree.Wish.{Wish}
use Rattle.ifs_parse.specs.declared.tree.Part.{Part}
use Rattle.ifs_parse.specs.declared.tree.Part.TheVariants.{Init, Do}
use Rattle.ifs_parse.specs.declared.block.Statement.{Statement}
use Rattle.ifs_parse.specs.declared.block.Statement.TheVariants.{Run, SetState, If}
use Rattle.ifs_policy.specs.declared.tables.Tables.{Tables}
use Rattle.ifs_policy.specs.Resolution.{body_in, place_block}
use Rattle.ifs_policy.specs.inner.Sized.{place_statement}

pub place_within : {X : Type 0} (p : X → Bool) (xs : List X) → position_or_len p xs ≤ length xs
place_within p xs = prefix_len-le-length (λ x. not (p x)) xs

pub place_then : (tables : Tables) (statement : Statement Test Name Wish) (rest : tree.Block Test Name Wish)
    → place_block tables (statement_then statement rest) ≡ statement_then (place_statement tables statement) (place_block tables rest)
place_then tables (Run command) rest = refl
place_then tables (SetState target) rest = refl
place_then tables (If condition inner) rest = refl

pub place_statements : (tables : Tables) (statements : List (Statement Test Name Wish))
    → place_block tables (block_of statements) ≡ block_of (map (place_statement tables) statements)
place_statements tables [] = refl
place_statements tables (statement ∷ rest) =
    place_then tables statement (block_of rest) ∙ ap (statement_then (place_statement tables statement)) (place_statements tables rest)

-- The statements of a part, as a list.
abbrev pub statements_in : List Part → List (Statement Test Name Wish)
statements_in [] = []
statements_in (Init place block ∷ rest) = statements_in rest
statements_in (Do statement ∷ rest) = statement ∷ statements_in rest

pub body_is : (parts : List Part) → body_in parts ≡ block_of (statements_in parts)
body_is [] = refl
body_is (Init place block ∷ rest) = body_is rest
body_is (Do statement ∷ rest) = ap (statement_then statement) (body_is rest)
