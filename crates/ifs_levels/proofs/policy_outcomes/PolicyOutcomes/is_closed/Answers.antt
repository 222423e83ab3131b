-- A table with the opening that nothing leads out of has all that steps lead to.
use Rattle.std.proofs.Common.{subst, w64}
use Rattle.std.proofs.lemmas.Bool.{OnTrue_at, OnTrue_from}
use Rattle.std.proofs.lemmas.Int.{to_z-of_z}
use Rattle.ifs_levels.specs.Levels.{HoldsFromOpenings}
use Rattle.ifs_levels.specs.Metering.{meter_of}
use Rattle.ifs_levels.specs.Rows.{IsInTable, Opens}
use Rattle.ifs_levels.proofs.policy_outcomes.PolicyOutcomes.is_closed.Goals as goal

pub returns-then-opens_from : goal.returns-then-opens_from
returns-then-opens_from c =
    let policy = c.args.self.now in
    let meter = meter_of c.args.meter.now in
    let rows = c.args.rows.now in
    OnTrue_from c.are_closed.result (HoldsFromOpenings policy meter c.args.keeps c.args.first (IsInTable rows))
    (λ is. OnTrue_at is c.are_closed.ensures c.args.first (subst (Opens policy meter rows) (to_z-of_z w64 c.args.first c.ranges.first) c.if-opens_from.ensures))
