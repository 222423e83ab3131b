-- Tables whose places are 16-bit numbers, statements with places, and borrowed parts.
use Rattle.std.specs.Prelude.{◌≤◌, List, map, length}
use Rattle.std.specs.Borrow.{Bor}
use Rattle.ifs_base.specs.declared.ids.CommandId.{CommandId}
use Rattle.ifs_base.specs.declared.ids.StateId.{StateId}
use Rattle.ifs_parse.specs.declared.block.Statement.{Statement}
use Rattle.ifs_parse.specs.declared.block.Statement.TheVariants.{Run, SetState, If}
use Rattle.ifs_parse.specs.declared.tree.Name.{Name}
use Rattle.ifs_parse.specs.declared.tree.Part.{Part}
use Rattle.ifs_parse.specs.declared.tree.Test.{Test}
use Rattle.ifs_parse.specs.declared.tree.Wish.{Wish}
use Rattle.ifs_policy.specs.declared.policy.Single.{Single}
use Rattle.ifs_policy.specs.declared.tables.Tables.{Tables}
use Rattle.ifs_policy.specs.Resolution.{place_command, place_state, place_condition, place_block}

-- The tables are not longer than their limits.
pub record HasTableSizes (tables : Tables) : Type 0 where
  pub interfaces : length tables.interfaces ≤ 64
  pub tests : length tables.tests ≤ 64
  pub commands : length tables.commands ≤ 1024
  pub states : length tables.states ≤ 256

-- A statement with places for names.
abbrev pub place_statement : Tables → Statement Test Name Wish → Statement Single CommandId StateId
place_statement tables (Run command) = Run (place_command tables command)
place_statement tables (SetState target) = SetState (place_state tables target.state)
place_statement tables (If condition block) = If (place_condition tables condition) (place_block tables block)

-- Borrowed parts, as the parts.
abbrev pub borrowed : List (Bor Part) → List Part
borrowed parts = map (λ part. part.now) parts
