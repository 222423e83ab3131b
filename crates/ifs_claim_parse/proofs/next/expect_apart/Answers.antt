-- State by state.
use Rattle.std.proofs.Common.{subst, arith}
use Rattle.std.specs.Prelude.{Contains}
use Rattle.std.proofs.lemmas.List.{take_all}
use Rattle.std.proofs.lemmas.List.Elements.{All-more}
use Rattle.ifs_claim_parse.specs.Says.{AreApart}
use Rattle.ifs_claim_parse.proofs.next.expect_apart.Goals as goal

pub loop-other-init : goal.loop-other-init
loop-other-init c = λ k d lt. absurd (omega (arith, lt))

pub loop-other-preserved : goal.loop-other-preserved
loop-other-preserved c =
    All-more (λ other. ¬ Contains c.args.states.now other) c.args.others.now c.loop-other.other-index _ c.loop-other-test.true c.loop-other.invariant c.if-is_among.ensures

pub returns : goal.returns
returns c = subst (λ first. AreApart c.args.states.now first) (take_all c.loop-other.other-index c.args.others.now c.loop-other-test.false) c.loop-other.invariant
