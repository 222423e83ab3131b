-- One state after the other.
use Rattle.std.proofs.Common.{sym, subst, arith}
use Rattle.ifs_compare.specs.inner.Reporting.{IsTold}
use Rattle.ifs_compare.proofs.Sames.{at_index}
use Rattle.ifs_compare.proofs.Told.{told_twice}
use Rattle.ifs_compare.proofs.reporting.report_states.Goals as goal
use Rattle.ifs_compare.proofs.reporting.report_states.Goals.{then-is_common+in_ok-report_state, else-is_common}

pub report_state-requires-clause-state : goal.report_state-requires-clause-state
report_state-requires-clause-state c =
    at_index c.args.case.now.judged.now.states.items c.loop-index.index c.index-answer.result.now (omega (arith, c.loop-index-test.true, c.len-index-end.ensures)) c.index-answer.ensures

pub loop-index-preserved : goal.loop-index-preserved
loop-index-preserved c =
    let case = c.args.case.now in
    let start = c.args.found.now in
    elim c.if-is_common.branch [
      | then-is_common+in_ok-report_state w ↦
          subst (IsTold case start) (sym w.found-is) (told_twice case start c.loop-index.found w.report_state.new.found c.loop-index.invariant w.in_ok-report_state.ensures)
      | else-is_common w ↦ subst (IsTold case start) (sym w.found-is) c.loop-index.invariant
    ]
