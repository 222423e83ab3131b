-- One step after the other.
use Rattle.std.proofs.Common.{◌++◌, take}
use Rattle.ifs_play.proofs.Made.{none_made, more_made, all_made}
use Rattle.ifs_play.proofs.making.make_steps.Goals as goal

pub loop-step-init : goal.loop-step-init
loop-step-init c = λ policy known begun h. none_made policy known begun c.args.steps.now c.args.core.now h

pub loop-step-preserved : goal.loop-step-preserved
loop-step-preserved c = λ policy known begun h.
    more_made policy known begun c.args.steps.now c.loop-step.step-index _ c.make_step.new.core c.loop-step-test.true
    (c.make_step.ensures policy known (begun ++ take c.loop-step.step-index c.args.steps.now) (c.loop-step.invariant policy known begun h))

pub returns : goal.returns
returns c = λ policy known begun h. all_made policy known begun c.args.steps.now c.loop-step.step-index c.loop-step.core c.loop-step-test.false (c.loop-step.invariant policy known begun h)
