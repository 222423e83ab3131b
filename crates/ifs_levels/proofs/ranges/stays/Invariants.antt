-- If the range has what is left, it has all.
use Rattle.std.proofs.Common.{◌≡◌, drop}
use Rattle.ifs_levels.specs.Metering.{meter_of}
use Rattle.ifs_levels.specs.inner.Ranges.{StaysIn}
use Rattle.ifs_levels.proofs.ranges.stays.Given as goal

abbrev pub invariant-loop-command : goal.invariant-loop-command
invariant-loop-command l = StaysIn (meter_of l.meter) l.range l.now_at (drop l.command-index l.commands) → StaysIn (meter_of l.meter) l.range l.initial.now_at l.commands
