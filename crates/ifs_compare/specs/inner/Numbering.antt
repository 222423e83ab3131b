-- Tables whose places are 16-bit numbers, and statements with other numbers.
use Rattle.std.specs.Prelude.{◌≡◌, ◌<◌, ◌^◌, length, map}
use Rattle.ifs_base.specs.declared.ids.CommandId.{CommandId}
use Rattle.ifs_base.specs.declared.ids.StateId.{StateId}
use Rattle.ifs_parse.specs.declared.block.Statement.{Statement}
use Rattle.ifs_parse.specs.declared.block.Statement.TheVariants.{Run, SetState, If}
use Rattle.ifs_gen.specs.Trees.{Single, Policy}
use Rattle.ifs_policy.specs.declared.tables.Tables.{Tables}
use Rattle.ifs_compare.specs.declared.renumbering.Renumbered.{Renumbered}
use Rattle.ifs_compare.specs.Renumbering.{command_number, state_number, renumbered_condition, renumbered_block, renumbered_part, part_named}

-- Each place in the tables is a 16-bit number, and so is their length.
pub record HasNumbers (tables : Tables) : Type 0 where
  pub interfaces : length tables.interfaces < 2 ^ 16
  pub tests : length tables.tests < 2 ^ 16
  pub commands : length tables.commands < 2 ^ 16
  pub states : length tables.states < 2 ^ 16

-- A statement with the numbers of other tables.
abbrev pub renumbered_statement : Tables → Tables → Statement Single CommandId StateId → Statement Single CommandId StateId
renumbered_statement from to (Run command) = Run (command_number from to command)
renumbered_statement from to (SetState state) = SetState (state_number from to state)
renumbered_statement from to (If condition block) = If (renumbered_condition from to condition) (renumbered_block from to block)

-- The blocks of a policy with the numbers of other tables. The first tables are those by which the policy has its numbers.
pub record IsRenumbered (made : Renumbered) (from to : Tables) (policy : Policy) : Type 0 where
  pub initial : made.initial ≡ state_number from to policy.initial
  pub always : made.always ≡ renumbered_part from to policy.always
  pub states : made.states ≡ map (part_named policy from to) to.states
