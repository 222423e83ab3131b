-- The end of a chain, whichever sign joins it.
use Rattle.std.proofs.Common.{refl, arith}
use Rattle.std.proofs.lemmas.Grind.{common_steps}
use Rattle.ifs_parse.specs.Views.{condition_of}
use Rattle.ifs_policy.specs.Visits.{after_condition}
use Rattle.ifs_policy.proofs.Joined.{chain_of, chain_steps}
use Rattle.ifs_policy.proofs.visiting.+visit_condition.Goals as goal

pub returns-after-loop-operand : goal.returns-after-loop-operand
returns-after-loop-operand g t c =
    let after = g.V.SingleVisitor.after in
    let first = c.in-All.first.value in
    let second = c.in-All.second.value in
    let rest = c.in-All.rest.items in
    let is = chain_of condition_of _ _ _ c.args.condition.now first second rest rest c.in-All.is refl refl c.node.ensures.value refl in
    let chain = chain_steps (after_condition after c.args.visitor.now) (after_condition after) (λ a b. refl) (λ a b. refl) c.args.condition.now first second rest is in
    grind (arith, common_steps)
