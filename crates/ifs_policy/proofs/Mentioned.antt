-- The mentions in a block are those in its statements.
use Rattle.std.proofs.Common.{◌≡◌, List, [], ◌∷◌, ◌++◌, refl, sym, ap, ◌∙◌, append_assoc}
use Rattle.std.proofs.lemmas.List.{append-nil}
use Rattle.std.specs.List.{flat_map}
use Rattle.ifs_parse.specs.Trees as tree
use Rattle.ifs_parse.specs.Views.{block_of, statement_then}
use Rattle.ifs_parse.specs.declared.tree.Name.{Name}
use Rattle.ifs_parse.specs.declared.tree.Test.{Test}
use Rattle.ifs_parse.specs.declared.tree.Wish.{Wish}
use Rattle.ifs_parse.specs.declared.block.Statement.{Statement}
use Rattle.ifs_parse.specs.declared.block.Statement.TheVariants.{Run, SetState, If}
use Rattle.ifs_policy.specs.declared.mention.Half.{Half}
use Rattle.ifs_policy.specs.Mentions.{block_mentions, condition_mentions, statement_mentions}

then_mentions : (half : Half) (statement : Statement Test Name Wish) (rest : tree.Block Test Name Wish)
    → block_mentions half (statement_then statement rest) ≡ statement_mentions half statement ++ block_mentions half rest
then_mentions half (Run command) rest = refl
then_mentions half (SetState target) rest = refl
then_mentions half (If condition inner) rest =
    let inside = block_mentions half inner in
    sym (append_assoc (condition_mentions half condition) (inside ++ []) (block_mentions half rest)
    ∙ ap (λ xs. condition_mentions half condition ++ (xs ++ block_mentions half rest)) (append-nil inside))

pub statements_mentions : (half : Half) (statements : List (Statement Test Name Wish))
    → block_mentions half (block_of statements) ≡ flat_map (statement_mentions half) statements
statements_mentions half [] = refl
statements_mentions half (statement ∷ rest) =
    then_mentions half statement (block_of rest) ∙ ap (λ xs. statement_mentions half statement ++ xs) (statements_mentions half rest)
