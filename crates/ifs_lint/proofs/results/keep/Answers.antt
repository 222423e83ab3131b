-- Step by step.
use Rattle.ifs_lint.proofs.Keeping.{keep_next, keep_all}
use Rattle.ifs_lint.proofs.results.keep.Goals as goal

pub loop-step-preserved : goal.loop-step-preserved
loop-step-preserved c = λ links. keep_next (record { links = links; results = c.args.results.now }) c.args.steps.now c.loop-step.step-index _ c.loop-step-test.true (c.loop-step.invariant links) (c.if-not-keeps.ensures links)

pub returns : goal.returns
returns c = λ links. keep_all (record { links = links; results = c.args.results.now }) c.args.steps.now c.loop-step.step-index c.loop-step-test.false (c.loop-step.invariant links)
