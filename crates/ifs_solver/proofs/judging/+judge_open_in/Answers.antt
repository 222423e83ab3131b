-- The end of a chain, whichever sign joins it.
use Rattle.std.proofs.Common.{refl, arith}
use Rattle.std.proofs.lemmas.Grind.{common_steps}
use Rattle.ifs_parse.specs.Views.{condition_of}
use Rattle.ifs_policy.proofs.Joined.{chain_of, chain_steps}
use Rattle.ifs_solver.specs.FactSets.{fact_set_of}
use Rattle.ifs_solver.specs.inner.Judging.{judged_open_in}
use Rattle.ifs_solver.proofs.Chained.{open_next}
use Rattle.ifs_solver.proofs.judging.+judge_open_in.Goals as goal

pub returns-after-loop-operand : goal.returns-after-loop-operand
returns-after-loop-operand t c =
    let set = fact_set_of c.args.set.now in
    let first = c.in-All.first.value in
    let second = c.in-All.second.value in
    let rest = c.in-All.rest.items in
    let is = chain_of condition_of _ _ _ c.args.condition.now first second rest rest c.in-All.is refl refl c.node.ensures.value refl in
    let chain = chain_steps (judged_open_in set) (open_next set) (λ a b. refl) (λ a b. refl) c.args.condition.now first second rest is in
    grind (arith, common_steps)
