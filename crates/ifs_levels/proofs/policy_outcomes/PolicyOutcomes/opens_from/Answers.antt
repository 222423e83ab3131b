-- The range has just the first level.
use Rattle.std.proofs.Common.{Some, ap, ◌∙◌, rules, w64}
use mir.Val.{SFits}
use Rattle.std.proofs.lemmas.Bool.{OnTrue_at, OnTrue_from}
use Rattle.std.proofs.lemmas.Int.{to_z-of_z}
use Rattle.ifs_levels.specs.Metering.{meter_of}
use Rattle.ifs_levels.specs.Rows.{Opens}
use Rattle.ifs_levels.proofs.Shifts.{only_has}
use Rattle.ifs_levels.proofs.policy_outcomes.PolicyOutcomes.opens_from.Goals as goal

pub returns : goal.returns
returns c =
    let fits : SFits w64 c.args.first.now = search rules in
    let first = ap (λ x. Some x) (to_z-of_z w64 c.args.first.now fits) in
    let has = only_has c.only.result c.args.first.now (c.only.ensures.least ∙ first) (c.only.ensures.greatest ∙ first) in
    OnTrue_from c.opens.result (Opens c.args.self.now (meter_of c.args.meter.now) c.args.rows.now c.args.first.now) (λ is. OnTrue_at is c.opens.ensures c.args.first.now has)
