-- The numbers in blocks are those in their statements.
use Rattle.std.proofs.Common.{◌≡◌, List, [], ◌∷◌, map, refl, ap, ◌∙◌}
use Rattle.ifs_base.specs.declared.ids.CommandId.{CommandId}
use Rattle.ifs_base.specs.declared.ids.StateId.{StateId}
use Rattle.ifs_parse.specs.Views.{block_of, statement_then}
use Rattle.ifs_parse.specs.declared.block.Statement.{Statement}
use Rattle.ifs_parse.specs.declared.block.Statement.TheVariants.{Run, SetState, If}
use Rattle.ifs_gen.specs.Trees.{Single, Block}
use Rattle.ifs_policy.specs.declared.tables.Tables.{Tables}
use Rattle.ifs_compare.specs.Renumbering.{renumbered_block}
use Rattle.ifs_compare.specs.inner.Numbering.{renumbered_statement}

module _ (from to : Tables) where
  renumbered_then : (statement : Statement Single CommandId StateId) (rest : Block)
      → renumbered_block from to (statement_then statement rest) ≡ statement_then (renumbered_statement from to statement) (renumbered_block from to rest)
  renumbered_then (Run command) rest = refl
  renumbered_then (SetState state) rest = refl
  renumbered_then (If condition inner) rest = refl

  pub renumbered_statements : (statements : List (Statement Single CommandId StateId)) → renumbered_block from to (block_of statements) ≡ block_of (map (renumbered_statement from to) statements)
  renumbered_statements [] = refl
  renumbered_statements (statement ∷ rest) = renumbered_then statement (block_of rest) ∙ ap (statement_then (renumbered_statement from to statement)) (renumbered_statements rest)
