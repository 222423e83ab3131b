-- What is said is said of right answers, or it is less.
use Rattle.ifs_lint.proofs.Seen.{tells_less}
use Rattle.ifs_lint.proofs.linting.lint.Goals as goal

pub returns-clause-tells : goal.returns-clause-tells
returns-clause-tells c =
    tells_less c.args.policy.now c.in_ok-answers.answers c.as_slice-answers.result.now c.in_ok-states.states c.as_slice-states.result.now c.in_ok-linted.linted c.in_ok-answers.ensures.answers c.as_slice-answers.ensures c.in_ok-states.ensures.answers c.as_slice-states.ensures
    c.in_ok-linted.ensures.says
