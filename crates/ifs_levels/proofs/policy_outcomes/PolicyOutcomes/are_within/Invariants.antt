-- Those so far are.
use Rattle.std.proofs.Common.{take, All}
use Rattle.ifs_levels.specs.Metering.{meter_of}
use Rattle.ifs_levels.specs.Ranges.{is_within}
use Rattle.ifs_levels.specs.Within.{IsRowWithin}
use Rattle.ifs_levels.proofs.policy_outcomes.PolicyOutcomes.are_within.Given as goal

abbrev pub invariant-loop-row : goal.invariant-loop-row
invariant-loop-row l = All (IsRowWithin l.self (meter_of l.meter) l.keeps (is_within l.range)) (take l.row-index l.rows)
