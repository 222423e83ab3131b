-- No outcome of the opening leads out of the range.
use Rattle.std.proofs.lemmas.Bool.{OnTrue_at, OnTrue_from}
use Rattle.ifs_levels.specs.Metering.{meter_of}
use Rattle.ifs_levels.specs.Ranges.{OfEach, is_within}
use Rattle.ifs_levels.specs.Within.{OpensWithin}
use Rattle.ifs_levels.proofs.Tables.{opens_within}
use Rattle.ifs_levels.proofs.policy_outcomes.PolicyOutcomes.opens_within.Goals as goal

pub returns : goal.returns
returns c =
    let policy = c.args.self.now in
    let meter = meter_of c.args.meter.now in
    OnTrue_from c.all_stay.result (OfEach c.args.levels (OpensWithin policy meter (is_within c.args.range.now)))
    (λ is. opens_within policy meter c.args.range.now c.args.levels c.opening.result.now (OnTrue_at is c.all_stay.ensures) c.opening.ensures)
