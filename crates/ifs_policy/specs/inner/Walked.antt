-- The result of a walk over items that break no rule.
use Rattle.std.specs.Prelude.{◌≡◌, List}
use Rattle.ifs_parse.specs.declared.tree.Item.{Item}
use Rattle.ifs_policy.specs.declared.names.Names.{Names}
use Rattle.ifs_policy.specs.declared.placing.PolicyTrees.{PolicyTrees}
use Rattle.ifs_policy.specs.Mentions.{mentions_of}
use Rattle.ifs_policy.specs.Tables.{no_names, tables_of}
use Rattle.ifs_policy.specs.Faults.{AreSound, AreKnown}
use Rattle.ifs_policy.specs.Resolution.{always_of, initial_of, place_part, place_states}

-- The items break no rule, the tables are those of their mentions, and the blocks have the places in these tables.
pub record Walked (items : List Item) (placed : PolicyTrees) (names : Names) : Type 0 where
  pub sound : AreSound no_names (mentions_of items)
  pub known : AreKnown (tables_of (mentions_of items)).states (mentions_of items)
  pub tables : names.tables ≡ tables_of (mentions_of items)
  pub initial : placed.initial ≡ initial_of (tables_of (mentions_of items)) items
  pub always : placed.always ≡ place_part (tables_of (mentions_of items)) (always_of items)
  pub states : placed.states ≡ place_states (tables_of (mentions_of items)) items
