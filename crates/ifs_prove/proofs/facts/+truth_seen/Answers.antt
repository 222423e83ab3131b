-- The end of a chain.
use Rattle.std.proofs.Common.{refl, arith}
use Rattle.std.proofs.lemmas.Grind.{common_steps}
use Rattle.ifs_parse.specs.Views.{condition_of}
use Rattle.ifs_claims.specs.Moves.{seen}
use Rattle.ifs_prove.specs.inner.Facts.{decides}
use Rattle.ifs_prove.proofs.Chains.{chain_true}
use Rattle.ifs_prove.proofs.facts.+truth_seen.Goals as goal

pub returns-after-loop-operand : goal.returns-after-loop-operand
returns-after-loop-operand t c =
    let chain =
    chain_true condition_of decides _ _ _ (seen c.args.step c.args.core.now.state.position.facts) c.args.condition.now c.in-All.first.value c.in-All.second.value c.in-All.rest.items c.decides-deciding.result c.in-All.is refl refl refl refl
    c.node-node.ensures.value c.decides-deciding.ensures in
    grind (arith, common_steps)
