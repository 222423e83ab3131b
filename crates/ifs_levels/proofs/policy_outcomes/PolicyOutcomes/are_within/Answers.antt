-- One more row.
use Rattle.std.proofs.Common.{subst}
use Rattle.std.specs.Prelude.{All}
use Rattle.std.proofs.lemmas.List.{take_all}
use Rattle.std.proofs.lemmas.List.Elements.{All-more}
use Rattle.ifs_levels.specs.Metering.{meter_of}
use Rattle.ifs_levels.specs.Ranges.{is_within}
use Rattle.ifs_levels.specs.Within.{IsRowWithin}
use Rattle.ifs_levels.proofs.policy_outcomes.PolicyOutcomes.are_within.Goals as goal

pub loop-row-preserved : goal.loop-row-preserved
loop-row-preserved c =
    All-more (IsRowWithin c.args.self.now (meter_of c.args.meter.now) c.args.keeps (is_within c.args.range.now)) c.args.rows.now c.loop-row.row-index _ c.loop-row-test.true c.loop-row.invariant
    c.if-not-is_row_within.ensures

pub returns : goal.returns
returns c =
    let rows = c.args.rows.now in
    subst (All (IsRowWithin c.args.self.now (meter_of c.args.meter.now) c.args.keeps (is_within c.args.range.now))) (take_all c.loop-row.row-index rows c.loop-row-test.false) c.loop-row.invariant
