-- Those so far are.
use Rattle.std.proofs.Common.{take, All}
use Rattle.ifs_levels.specs.Metering.{meter_of}
use Rattle.ifs_levels.specs.Rows.{IsRowClosed}
use Rattle.ifs_levels.proofs.policy_outcomes.PolicyOutcomes.all_closed.Given as goal

abbrev pub invariant-loop-row : goal.invariant-loop-row
invariant-loop-row l = All (IsRowClosed l.self (meter_of l.meter) l.keeps l.rows) (take l.row-index l.rows)
