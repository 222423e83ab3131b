-- Conditions with places for names that the policy has.
use Rattle.std.specs.Prelude.{◌≡◌}
use Rattle.ifs_parse.specs.Trees as tree
use Rattle.ifs_parse.specs.declared.tree.Test.{Test}
use Rattle.ifs_policy.specs.declared.policy.Single.{Single}
use Rattle.ifs_policy.specs.declared.tables.Tables.{Tables}
use Rattle.ifs_policy.specs.Fits.{ConditionFits, SingleFits, sizes_of}
use Rattle.ifs_policy.specs.Resolution.{place_condition, place_single}

-- A single test with the place of its name, which the policy has.
pub record IsPlacedSingle (tables : Tables) (test : Test) (single : Single) : Type 0 where
  pub is : single ≡ place_single tables test
  pub fits : SingleFits (sizes_of tables) single

-- The same of a condition.
pub record IsPlacedIn (tables : Tables) (condition : tree.Condition Test) (placed : tree.Condition Single) : Type 0 where
  pub is : placed ≡ place_condition tables condition
  pub fits : ConditionFits (sizes_of tables) placed
