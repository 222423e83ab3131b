-- The order of the entries of the tables.
use Rattle.std.specs.Prelude.{◌≡◌, List}
use Rattle.ifs_parse.specs.declared.tree.Item.{Item}
use Rattle.ifs_policy.specs.declared.tables.Tables.{Tables}
use Rattle.ifs_policy.specs.Tables.{text_eq, test_eq}
use Rattle.ifs_policy.specs.Whole.{first_uses, interfaces, tests, commands, states}

-- Interfaces, tests and commands are in the order of their first use, states in the order of their definitions.
pub record InOrder (items : List Item) (tables : Tables) : Type 0 where
  pub interfaces : tables.interfaces ≡ first_uses text_eq (interfaces items)
  pub tests : tables.tests ≡ first_uses test_eq (tests items)
  pub commands : tables.commands ≡ first_uses text_eq (commands items)
  pub states : tables.states ≡ states items
