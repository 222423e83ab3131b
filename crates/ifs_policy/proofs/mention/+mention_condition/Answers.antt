-- The mentions in a chain are those in its operands, whichever sign joins them.
use Rattle.std.proofs.Common.{◌≡◌, refl, ◌++◌, ◌∙◌, append_assoc, arith}
use Rattle.std.proofs.lemmas.Grind.{common_steps}
use Rattle.std.specs.List.{flat_map}
use Rattle.ifs_parse.specs.Views.{condition_of}
use Rattle.ifs_policy.specs.Mentions.{condition_mentions}
use Rattle.ifs_policy.proofs.Joined.{chain_of, chain_list}
use Rattle.ifs_policy.proofs.mention.+mention_condition.Goals as goal

pub returns-after-loop-operand : goal.returns-after-loop-operand
returns-after-loop-operand t c =
    let told = condition_mentions c.args.half in
    let first = c.in-All.first.value in
    let second = c.in-All.second.value in
    let rest = c.in-All.rest.items in
    let is = chain_of condition_of _ _ _ c.args.condition.now first second rest rest c.in-All.is refl refl c.node.ensures.value refl in
    let chain : told c.args.condition.now ≡ told first ++ (told second ++ flat_map told rest) =
    chain_list told (λ a b. refl) (λ a b. refl) c.args.condition.now first second rest is ∙ append_assoc (told first) (told second) _ in
    grind (arith, common_steps)
