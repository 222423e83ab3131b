-- The code of a chain is that of its operands, each after the first with the sign.
use Rattle.std.proofs.Common.{refl, arith}
use Rattle.std.proofs.lemmas.Grind.{common_steps}
use Rattle.ifs_parse.specs.Views.{condition_of}
use Rattle.ifs_gen.specs.inner.Emission.{joining_op}
use Rattle.ifs_gen.proofs.Chains.{chain_code}
use Rattle.ifs_gen.proofs.emission.+put_condition.Goals as goal

pub returns-after-loop-operand : goal.returns-after-loop-operand
returns-after-loop-operand t c =
    let chain = chain_code condition_of joining_op _ _ _ c.args.condition.now c.in-All.first.value c.in-All.second.value c.in-All.rest.items c.joining_op-op.result c.in-All.is refl refl refl refl
    c.node-node.ensures.value c.joining_op-op.ensures in
    grind (arith, common_steps)
