-- Those so far do.
use Rattle.std.proofs.Common.{take, All}
use Rattle.ifs_levels.specs.Metering.{meter_of}
use Rattle.ifs_levels.specs.inner.Ranges.{IsStaying}
use Rattle.ifs_levels.proofs.ranges.all_stay.Given as goal

abbrev pub invariant-loop-outcome : goal.invariant-loop-outcome
invariant-loop-outcome l = All (IsStaying (meter_of l.meter) l.range l.levels) (take l.outcome-index l.outcomes)
