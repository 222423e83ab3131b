-- One answer after the other.
use Rattle.std.proofs.Common.{subst, sym, take, ◌+◌}
use Rattle.ifs_lint.specs.inner.Seen.{SayLess}
use Rattle.ifs_lint.proofs.Seen.{less_more}
use Rattle.ifs_lint.proofs.linting.answers_seen.Goals as goal

pub loop-answer-preserved : goal.loop-answer-preserved
loop-answer-preserved c =
    let answers = c.args.answers.now in
    let i = c.loop-answer.answer-index in
    subst (SayLess (take (i + 1) answers)) (sym c.in_ok-push.ensures.items)
    (less_more answers c.loop-answer.seen.items i _ c.answer_seen.result c.loop-answer-test.true c.loop-answer.invariant c.answer_seen.ensures)
