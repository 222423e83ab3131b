-- The first levels so far are.
use Rattle.std.proofs.Common.{take, All}
use Rattle.ifs_levels.specs.Levels.{HoldsFromOpenings, StaysWithin}
use Rattle.ifs_levels.specs.Metering.{meter_of}
use Rattle.ifs_levels.specs.Ranges.{is_within}
use Rattle.ifs_levels.specs.Rows.{IsInTable}
use Rattle.ifs_levels.proofs.policy_outcomes.PolicyOutcomes.all_within.Given as goal

abbrev pub invariant-loop-first : goal.invariant-loop-first
invariant-loop-first l =
    All (λ first. HoldsFromOpenings l.self (meter_of l.meter) l.keeps first (IsInTable l.rows) → StaysWithin l.self (meter_of l.meter) l.keeps first (is_within l.range)) (take l.first-index l.firsts)
