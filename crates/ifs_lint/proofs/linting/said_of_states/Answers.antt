-- One more state.
use Rattle.ifs_lint.specs.Naming.{on_states, states_named}
use Rattle.ifs_lint.proofs.Telling.{one_more}
use Rattle.ifs_lint.proofs.linting.said_of_states.Goals as goal

pub loop-number-preserved : goal.loop-number-preserved
loop-number-preserved c =
    one_more states_named c.args.answers.now c.loop-number.number _ (on_states c.loop-number.findings.items) (on_states c.put_state.new.findings.items) c.loop-number-test.true c.loop-number.invariant c.in_ok-put_state.ensures
