-- The walk is over the always part and the states of the policy.
use Rattle.std.proofs.Common.{subst, sym}
use Rattle.std.specs.Prelude.{Contains}
use Rattle.ifs_solver.specs.declared.answers.Answer.TheVariants.{Undecided}
use Rattle.ifs_solver.specs.Budgets.{IsSpent, IsUsedUp}
use Rattle.ifs_solver.proofs.Blocks.{all_answered, all_paid}
use Rattle.ifs_solver.proofs.walking.judge_places.Goals as goal

pub returns-clause-answers : goal.returns-clause-answers
returns-clause-answers c =
    all_answered c.of.result c.args.policy.now c.always.result.now c.states.result.now c.args.budget.now c.start-walk.result c.policy.new.self c.finish.result c.start-walk.ensures c.in_ok-policy.ensures.answers c.always.ensures c.states.ensures.value c.of.ensures
    c.finish.ensures.answers

pub returns-clause-undecided : goal.returns-clause-undecided
returns-clause-undecided c =
    let paid = all_paid c.of.result c.args.budget.now c.start-walk.result c.policy.new.self c.start-walk.ensures c.in_ok-policy.ensures.paid in
    λ is_open. subst (IsUsedUp c.args.budget.now) (sym c.finish.ensures.budget) (paid.undecided (subst (λ xs. Contains xs Undecided) c.finish.ensures.answers is_open))

pub returns-clause-spent : goal.returns-clause-spent
returns-clause-spent c =
    let paid = all_paid c.of.result c.args.budget.now c.start-walk.result c.policy.new.self c.start-walk.ensures c.in_ok-policy.ensures.paid in
    subst (IsSpent c.args.budget.now) (sym c.finish.ensures.budget) paid.spent
