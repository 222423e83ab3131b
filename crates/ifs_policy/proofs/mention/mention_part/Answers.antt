use Rattle.std.proofs.Common.{◌++◌, ◌∷◌, [], map, ap, ◌∙◌, append_assoc}
use Rattle.std.proofs.lemmas.List.{map-append}
use Rattle.ifs_policy.specs.Mentions.{block_mentions}
use Rattle.ifs_policy.specs.declared.mention.Half.TheVariants as at
use Rattle.ifs_policy.specs.declared.mention.Mention.TheVariants as says
use Rattle.ifs_policy.specs.inner.Seen.{seen}
use Rattle.ifs_policy.proofs.mention.mention_part.Goals as goal

pub returns-in_ok-mention_block-in-Init : goal.returns-in_ok-mention_block-in-Init
returns-in_ok-mention_block-in-Init c =
    let told = block_mentions at.Init c.in-Init.block in
    let init = says.Init c.args.owner c.in-Init.place in
    rw c.in-Init.is (c.in_ok-mention_block-in-Init.ensures
    ∙ ap (λ xs. map seen xs ++ told) c.in_ok-push-in-Init.ensures.items
    ∙ ap (λ xs. xs ++ told) (map-append seen c.args.mentions.now.items (says.Init c.args.owner c.in-Init.place ∷ []))
    ∙ append_assoc (map seen c.args.mentions.now.items) (init ∷ []) told)
