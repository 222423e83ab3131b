-- What the commands that are left make of the level is what all make of the first one.
use Rattle.std.proofs.Common.{◌≡◌, drop}
use Rattle.ifs_levels.specs.Metering.{level_by, meter_of}
use Rattle.ifs_levels.proofs.metering.level_by.Given as goal

abbrev pub invariant-loop-command : goal.invariant-loop-command
invariant-loop-command l = level_by (meter_of l.meter) l.now_at (drop l.command-index l.commands) ≡ level_by (meter_of l.meter) l.initial.now_at l.commands
