-- A table that nothing leads out of has all that steps lead to.
use Rattle.std.proofs.lemmas.Bool.{OnTrue_at, OnTrue_from}
use Rattle.ifs_levels.specs.Metering.{meter_of}
use Rattle.ifs_levels.specs.Rows.{IsClosedTable}
use Rattle.ifs_levels.proofs.Tables.{closed_table}
use Rattle.ifs_levels.proofs.policy_outcomes.PolicyOutcomes.are_closed.Goals as goal

pub returns : goal.returns
returns c =
    let policy = c.args.self.now in
    let meter = meter_of c.args.meter.now in
    OnTrue_from c.all_closed.result (IsClosedTable policy meter c.args.keeps c.args.rows.now)
    (λ is. closed_table c.steps_evaluate_once.ensures policy meter c.args.keeps c.args.rows.now (OnTrue_at is c.all_closed.ensures))
