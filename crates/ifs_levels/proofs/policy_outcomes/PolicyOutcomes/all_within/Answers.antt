-- One more first level.
use Rattle.std.proofs.Common.{subst}
use Rattle.std.specs.Prelude.{All}
use Rattle.std.proofs.lemmas.List.{take_all}
use Rattle.std.proofs.lemmas.List.Elements.{All-more}
use Rattle.ifs_levels.specs.Levels.{HoldsFromOpenings, StaysWithin}
use Rattle.ifs_levels.specs.Metering.{meter_of}
use Rattle.ifs_levels.specs.Ranges.{is_within}
use Rattle.ifs_levels.specs.Rows.{IsInTable}
use Rattle.ifs_levels.proofs.policy_outcomes.PolicyOutcomes.all_within.Goals as goal

pub loop-first-preserved : goal.loop-first-preserved
loop-first-preserved c =
    let policy = c.args.self.now in
    let meter = meter_of c.args.meter.now in
    let keeps = c.args.keeps in
    All-more (λ first. HoldsFromOpenings policy meter keeps first (IsInTable c.args.rows.now) → StaysWithin policy meter keeps first (is_within c.args.range.now)) c.args.firsts.now c.loop-first.first-index _
    c.loop-first-test.true c.loop-first.invariant c.if-not-keeps_within.ensures

pub returns : goal.returns
returns c =
    let policy = c.args.self.now in
    let meter = meter_of c.args.meter.now in
    let keeps = c.args.keeps in
    subst (All (λ first. HoldsFromOpenings policy meter keeps first (IsInTable c.args.rows.now) → StaysWithin policy meter keeps first (is_within c.args.range.now)))
    (take_all c.loop-first.first-index c.args.firsts.now c.loop-first-test.false) c.loop-first.invariant
