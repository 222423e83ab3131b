-- What commands make of a level.
use Rattle.std.specs.Prelude.{List, [], ◌∷◌, Option, Some, None, slice_get, ℤ, ◌+ℤ◌}
use Rattle.ifs_base.specs.declared.ids.CommandId.{CommandId}
use Rattle.ifs_levels.specs.declared.metering.Change.{Change}
use Rattle.ifs_levels.specs.declared.metering.Change.TheVariants.{Keeps, Adds, Sets}

-- The level after a command that does this.
abbrev pub changed : Change → ℤ → ℤ
changed Keeps level = level
changed (Adds number) level = level +ℤ number
changed (Sets value) level = value

-- A meter: what each command of a policy does to a level.
abbrev pub Meter : Type 0
Meter = CommandId → Change

-- What a command does: nothing if it is not in the list.
abbrev pub change_in : Option Change → Change
change_in None = Keeps
change_in (Some change) = change

-- The meter of a list, which has what each command does by its number.
abbrev pub meter_of : List Change → Meter
meter_of changes command = change_in (slice_get changes command.0)

-- The level after some commands, in order.
abbrev pub level_by : Meter → ℤ → List CommandId → ℤ
level_by meter level [] = level
level_by meter level (command ∷ commands) = level_by meter (changed (meter command) level) commands
