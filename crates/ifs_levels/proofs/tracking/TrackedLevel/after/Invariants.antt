-- What the commands that are left make of the level, and whether it stays, is what all make of the first one.
use Rattle.std.proofs.Common.{◌≡◌, ◌&&◌, drop}
use Rattle.ifs_levels.specs.Metering.{level_by, meter_of}
use Rattle.ifs_levels.specs.Levels.{stays_on}
use Rattle.ifs_levels.specs.Ranges.{is_within}
use Rattle.ifs_levels.proofs.tracking.TrackedLevel.after.Given as goal

abbrev pub invariant-loop-command : goal.invariant-loop-command
invariant-loop-command l = record {
  level : level_by (meter_of l.meter) l.level (drop l.command-index l.commands) ≡ level_by (meter_of l.meter) l.initial.level l.commands;
  stays : (l.has_stayed && stays_on (meter_of l.meter) (is_within l.range) l.level (drop l.command-index l.commands)) ≡ (l.initial.has_stayed && stays_on (meter_of l.meter) (is_within l.range) l.initial.level l.commands);
}
