-- Facts that lead to a `run` of a command.
use Rattle.std.specs.Prelude.{◌≡◌, ◌&&◌, Bool, List}
use Rattle.ifs_base.specs.Effects.{Effects}
use Rattle.ifs_base.specs.declared.ids.CommandId.{CommandId}
use Rattle.ifs_base.specs.declared.ids.StateId.{StateId}
use Rattle.ifs_policy.specs.Meaning.{Block, body_yield, reached}
use Rattle.ifs_solver.specs.declared.constraints.Constraint.{Constraint}
use Rattle.ifs_solver.specs.Asking.{Guard, is_met, meets_all}
use Rattle.ifs_solver.specs.Places.{Here}
use Rattle.ifs_claims.specs.Claims.{queues}
use Rattle.ifs_claims.specs.declared.commands.Reach.{Reach}
use Rattle.ifs_claims.specs.inner.Stays.{where_moving}

-- A command is among those of some effects.
abbrev pub runs : CommandId → Effects → Bool
runs command effects = queues command effects.commands

-- Facts meet some constraints, and a block reaches the command.
abbrev pub where_runs : List Constraint → CommandId → Block → Here
where_runs constraints command block facts = meets_all constraints facts && runs command (reached facts block)

-- A guard is met, and an init runs the command.
abbrev pub where_init : Guard → CommandId → Block → Here
where_init guard command init facts = is_met facts guard && runs command (reached facts init)

-- The bodies of a state lead to another one while a guard is met, and a block reaches the command.
abbrev pub where_led : Block → Block → StateId → Guard → CommandId → Block → Here
where_led always own next guard command block facts = where_moving always own next guard facts && runs command (reached facts block)

-- A guard is met, and a body runs the command.
abbrev pub where_body : Guard → CommandId → Block → Here
where_body guard command body facts = is_met facts guard && runs command (body_yield facts body)

-- A search is again where it was.
pub record IsBack (old new : Reach) : Type 0 where
  pub set : new.set ≡ old.set
  pub command : new.command ≡ old.command
  pub context : new.context.items ≡ old.context.items
