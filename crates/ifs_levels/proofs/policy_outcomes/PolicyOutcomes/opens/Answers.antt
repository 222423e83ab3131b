-- Each outcome of the opening leads to a row.
use Rattle.std.proofs.lemmas.Bool.{OnTrue_at, OnTrue_from}
use Rattle.ifs_levels.specs.Metering.{meter_of}
use Rattle.ifs_levels.specs.Ranges.{OfEach}
use Rattle.ifs_levels.specs.Rows.{Opens}
use Rattle.ifs_levels.proofs.Tables.{opens}
use Rattle.ifs_levels.proofs.policy_outcomes.PolicyOutcomes.opens.Goals as goal

pub returns : goal.returns
returns c =
    let policy = c.args.self.now in
    let meter = meter_of c.args.meter.now in
    let rows = c.args.rows.now in
    OnTrue_from c.all_lead.result (OfEach c.args.levels (Opens policy meter rows))
    (λ is. opens policy meter rows c.initial.result c.args.levels c.opening.result.now (OnTrue_at is c.all_lead.ensures) c.opening.ensures)
