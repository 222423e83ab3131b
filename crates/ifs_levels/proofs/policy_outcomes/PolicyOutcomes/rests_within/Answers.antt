-- A closed table has no other rest.
use Rattle.std.proofs.Common.{subst, w64}
use Rattle.std.proofs.lemmas.Bool.{OnTrue_at, OnTrue_from}
use Rattle.std.proofs.lemmas.Int.{to_z-of_z}
use Rattle.ifs_levels.specs.Levels.{HoldsFromOpenings}
use Rattle.ifs_levels.specs.Metering.{meter_of}
use Rattle.ifs_levels.specs.Ranges.{is_within}
use Rattle.ifs_levels.specs.Rows.{IsInTable}
use Rattle.ifs_levels.specs.Within.{RestsOnlyWithin}
use Rattle.ifs_levels.proofs.Tables.{table_rests}
use Rattle.ifs_levels.proofs.policy_outcomes.PolicyOutcomes.rests_within.Goals as goal

pub returns-then-is_closed : goal.returns-then-is_closed
returns-then-is_closed c =
    let policy = c.args.self.now in
    let meter = meter_of c.args.meter.now in
    let keeps = c.args.keeps in
    let rows = c.args.rows.now in
    let range = is_within c.args.range.now in
    OnTrue_from c.rest_within.result (RestsOnlyWithin policy meter keeps c.args.first c.args.state range)
    (λ is. table_rests policy meter keeps c.args.first rows c.args.state range
    (subst (λ l. HoldsFromOpenings policy meter keeps l (IsInTable rows)) (to_z-of_z w64 c.args.first c.ranges.first) c.if-is_closed.ensures) (OnTrue_at is c.rest_within.ensures))
