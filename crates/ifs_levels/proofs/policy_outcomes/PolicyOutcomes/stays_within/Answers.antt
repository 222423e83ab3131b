-- Nothing leads out of the range from a closed table.
use Rattle.std.proofs.Common.{subst, w64}
use Rattle.std.proofs.lemmas.Bool.{OnTrue_at, OnTrue_from}
use Rattle.std.proofs.lemmas.Int.{to_z-of_z}
use Rattle.ifs_levels.specs.Levels.{StaysWithin}
use Rattle.ifs_levels.specs.Metering.{meter_of}
use Rattle.ifs_levels.specs.Ranges.{is_within}
use Rattle.ifs_levels.proofs.policy_outcomes.PolicyOutcomes.stays_within.Goals as goal

pub returns-then-is_closed : goal.returns-then-is_closed
returns-then-is_closed c =
    let policy = c.args.self.now in
    let meter = meter_of c.args.meter.now in
    let keeps = c.args.keeps in
    let range = is_within c.args.range.now in
    OnTrue_from c.keeps_within.result (StaysWithin policy meter keeps c.args.first range)
    (λ is. subst (λ l. StaysWithin policy meter keeps l range) (to_z-of_z w64 c.args.first c.ranges.first) (OnTrue_at is c.keeps_within.ensures c.if-is_closed.ensures))
