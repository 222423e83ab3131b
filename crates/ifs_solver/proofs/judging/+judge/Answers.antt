-- The end of a chain.
use Rattle.std.proofs.Common.{refl, arith}
use Rattle.std.proofs.lemmas.Grind.{common_steps}
use Rattle.ifs_parse.specs.Views.{condition_of}
use Rattle.ifs_solver.specs.FactSets.{fact_set_of}
use Rattle.ifs_solver.specs.inner.Judging.{joins}
use Rattle.ifs_solver.proofs.Chained.{chain_judged}
use Rattle.ifs_solver.proofs.judging.+judge.Goals as goal

pub returns-after-loop-operand : goal.returns-after-loop-operand
returns-after-loop-operand t c =
    let chain =
    chain_judged condition_of joins _ _ _ (fact_set_of c.args.set.now) c.args.condition.now c.in-All.first.value c.in-All.second.value c.in-All.rest.items c.joins-deciding.result c.in-All.is refl refl refl refl
    c.node-node.ensures.value c.joins-deciding.ensures in
    grind (arith, common_steps)
