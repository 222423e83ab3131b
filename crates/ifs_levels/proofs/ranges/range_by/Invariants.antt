-- What the commands that are left make of the range is what all make of the first one.
use Rattle.std.proofs.Common.{◌≡◌, drop}
use Rattle.ifs_levels.specs.Metering.{meter_of}
use Rattle.ifs_levels.specs.Ranges.{range_by}
use Rattle.ifs_levels.proofs.ranges.range_by.Given as goal

abbrev pub invariant-loop-command : goal.invariant-loop-command
invariant-loop-command l = range_by (meter_of l.meter) l.now_at (drop l.command-index l.commands) ≡ range_by (meter_of l.meter) l.initial.now_at l.commands
