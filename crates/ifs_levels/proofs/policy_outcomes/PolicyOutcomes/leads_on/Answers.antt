-- Each outcome of the state leads to a row.
use Rattle.std.proofs.lemmas.Bool.{OnTrue_at, OnTrue_from}
use Rattle.ifs_levels.specs.Metering.{meter_of}
use Rattle.ifs_levels.specs.Ranges.{OfEach}
use Rattle.ifs_levels.specs.Rows.{LeadsOn}
use Rattle.ifs_levels.proofs.Tables.{leads_on}
use Rattle.ifs_levels.proofs.policy_outcomes.PolicyOutcomes.leads_on.Goals as goal

pub returns-in-Some : goal.returns-in-Some
returns-in-Some c =
    let policy = c.args.self.now in
    let meter = meter_of c.args.meter.now in
    let rows = c.args.rows.now in
    OnTrue_from c.all_lead.result (OfEach c.args.levels (LeadsOn policy meter rows c.args.state))
    (λ is. leads_on policy meter rows c.args.state c.args.levels c.in-Some.outcomes.now (OnTrue_at is c.all_lead.ensures) c.in-Some.ensures)
