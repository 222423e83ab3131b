-- No outcome of the state leads out of the range.
use Rattle.std.proofs.lemmas.Bool.{OnTrue_at, OnTrue_from}
use Rattle.ifs_levels.specs.Metering.{meter_of}
use Rattle.ifs_levels.specs.Ranges.{OfEach, is_within}
use Rattle.ifs_levels.specs.Within.{LeadsWithin}
use Rattle.ifs_levels.proofs.Tables.{leads_within}
use Rattle.ifs_levels.proofs.policy_outcomes.PolicyOutcomes.leads_within.Goals as goal

pub returns-in-Some : goal.returns-in-Some
returns-in-Some c =
    let policy = c.args.self.now in
    let meter = meter_of c.args.meter.now in
    OnTrue_from c.all_stay.result (OfEach c.args.levels (LeadsWithin policy meter (is_within c.args.range.now) c.args.state))
    (λ is. leads_within policy meter c.args.range.now c.args.levels c.in-Some.outcomes.now (OnTrue_at is c.all_stay.ensures) c.args.state c.in-Some.ensures)
