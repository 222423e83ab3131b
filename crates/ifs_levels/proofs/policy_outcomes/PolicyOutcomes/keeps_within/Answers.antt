-- Nothing leads out of the range from a closed table.
use Rattle.std.proofs.Common.{Some, ap, ◌∙◌, rules, w64}
use mir.Val.{SFits}
use Rattle.std.proofs.lemmas.Bool.{OnTrue_at, OnTrue_from}
use Rattle.std.proofs.lemmas.Int.{to_z-of_z}
use Rattle.ifs_levels.specs.Levels.{HoldsFromOpenings, StaysWithin}
use Rattle.ifs_levels.specs.Metering.{meter_of}
use Rattle.ifs_levels.specs.Ranges.{is_within}
use Rattle.ifs_levels.specs.Rows.{IsInTable}
use Rattle.ifs_levels.proofs.Shifts.{only_has}
use Rattle.ifs_levels.proofs.Tables.{table_within}
use Rattle.ifs_levels.proofs.policy_outcomes.PolicyOutcomes.keeps_within.Goals as goal

pub returns-then-opens_within : goal.returns-then-opens_within
returns-then-opens_within c =
    let policy = c.args.self.now in
    let meter = meter_of c.args.meter.now in
    let rows = c.args.rows.now in
    let range = is_within c.args.range.now in
    let fits : SFits w64 c.args.first.now = search rules in
    let first = ap (λ x. Some x) (to_z-of_z w64 c.args.first.now fits) in
    let has = only_has c.only.result c.args.first.now (c.only.ensures.least ∙ first) (c.only.ensures.greatest ∙ first) in
    OnTrue_from c.are_within.result (HoldsFromOpenings policy meter c.args.keeps c.args.first.now (IsInTable rows) → StaysWithin policy meter c.args.keeps c.args.first.now range)
    (λ is. table_within c.steps_evaluate_once.ensures policy meter c.args.keeps c.args.first.now rows range (c.if-opens_within.ensures c.args.first.now has) (OnTrue_at is c.are_within.ensures))
