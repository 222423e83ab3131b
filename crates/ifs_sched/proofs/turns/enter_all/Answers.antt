-- The test at the index has entered.
use Rattle.ifs_sched.specs.Schedule.{entered_test}
use Rattle.ifs_sched.specs.Timer.{inactive}
use Rattle.ifs_sched.proofs.ByIndex.{changed_below-more}
use Rattle.ifs_sched.proofs.turns.enter_all.Goals as goal

pub loop-index-preserved : goal.loop-index-preserved
loop-index-preserved c =
    let f = entered_test c.args.always c.args.own c.args.now in
    let new = rw (c.has_test.ensures, c.has_test-in-loop-index.ensures) at c.enter.ensures in
    changed_below-more f c.args.tests.now c.loop-index.tests c.loop-index.index (inactive 0) c.loop-index.invariant c.loop-index-test.true _ new
