-- One more first level.
use Rattle.std.proofs.Common.{subst}
use Rattle.std.specs.Prelude.{All}
use Rattle.std.proofs.lemmas.List.{take_all}
use Rattle.std.proofs.lemmas.List.Elements.{All-more}
use Rattle.ifs_levels.specs.Levels.{HoldsFromOpenings}
use Rattle.ifs_levels.specs.Metering.{meter_of}
use Rattle.ifs_levels.specs.Rows.{IsInTable}
use Rattle.ifs_levels.proofs.policy_outcomes.PolicyOutcomes.has_all.Goals as goal

pub loop-first-preserved : goal.loop-first-preserved
loop-first-preserved c =
    All-more (λ first. HoldsFromOpenings c.args.self.now (meter_of c.args.meter.now) c.args.keeps first (IsInTable c.args.rows.now)) c.args.firsts.now c.loop-first.first-index _ c.loop-first-test.true
    c.loop-first.invariant (c.if-not-are_closed.ensures _ c.if-not-opens_from.ensures)

pub returns : goal.returns
returns c =
    subst (All (λ first. HoldsFromOpenings c.args.self.now (meter_of c.args.meter.now) c.args.keeps first (IsInTable c.args.rows.now)))
    (take_all c.loop-first.first-index c.args.firsts.now c.loop-first-test.false) c.loop-first.invariant
