-- The answers are those of the tour.
use Rattle.std.proofs.Common.{sym, subst}
use Rattle.std.specs.Prelude.{Any}
use Rattle.ifs_solver.specs.Situations.{AreStateAnswers, LeavesOpen}
use Rattle.ifs_solver.proofs.Tours.{only_asked}
use Rattle.ifs_solver.proofs.touring.judge_states.Goals as goal

pub returns-clause-answers : goal.returns-clause-answers
returns-clause-answers c =
    subst (AreStateAnswers c.args.policy.now) (sym c.new.ensures)
    (c.in_ok-answers.ensures.says c.args.policy.now c.args.budget.now c.in_ok-tour.ensures.fits (c.in_ok-run.ensures.runs c.args.policy.now c.args.budget.now c.in_ok-tour.ensures.toured))

pub returns-clause-undecided : goal.returns-clause-undecided
returns-clause-undecided c = λ any.
    c.in_ok-answers.ensures.paid c.args.policy.now c.args.budget.now (c.in_ok-run.ensures.runs c.args.policy.now c.args.budget.now c.in_ok-tour.ensures.toured) c.in_ok-run.ensures.done
    (subst (Any LeavesOpen) c.new.ensures any)

pub returns-clause-spent : goal.returns-clause-spent
returns-clause-spent c =
    let toured = only_asked c.args.policy.now c.args.budget.now c.run.new.self c.answers.new.self c.in_ok-answers.ensures.asked (c.in_ok-run.ensures.runs c.args.policy.now c.args.budget.now c.in_ok-tour.ensures.toured) in
    toured.is.paid.spent
