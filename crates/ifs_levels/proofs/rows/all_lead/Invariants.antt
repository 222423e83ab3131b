-- Those so far do.
use Rattle.std.proofs.Common.{take, All}
use Rattle.ifs_levels.specs.Metering.{meter_of}
use Rattle.ifs_levels.specs.Ranges.{OfEach}
use Rattle.ifs_levels.specs.Rows.{LeadsToRow}
use Rattle.ifs_levels.proofs.rows.all_lead.Given as goal

abbrev pub invariant-loop-outcome : goal.invariant-loop-outcome
invariant-loop-outcome l = All (λ outcome. OfEach l.levels (λ level. LeadsToRow l.rows (meter_of l.meter) l.state level outcome)) (take l.outcome-index l.outcomes)
