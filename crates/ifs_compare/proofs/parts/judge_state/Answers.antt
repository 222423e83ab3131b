-- Evaluations after the handlers.
use Rattle.ifs_compare.specs.inner.Comparing.{is_undecided}
use Rattle.ifs_compare.proofs.Spending.{spent_on_state}
use Rattle.ifs_compare.proofs.parts.judge_state.Goals as goal

pub returns-clause-spent : goal.returns-clause-spent
returns-clause-spent c =
    let part = c.in_ok-part.part in
    spent_on_state c.args.effort.now c.judge_part.new.effort c.judge_evaluation.new.effort (is_undecided c.args.always.now) (is_undecided part.init) (is_undecided part.body) (is_undecided c.in_ok-evaluation.evaluation)
    c.in_ok-part.ensures.spent c.in_ok-evaluation.ensures.spent
