-- The mentions in the statements are those in the block.
use Rattle.std.proofs.Common.{ap, ◌∙◌, arith}
use Rattle.std.proofs.lemmas.Grind.{common_steps}
use Rattle.ifs_policy.specs.Mentions.{block_mentions}
use Rattle.ifs_policy.proofs.Mentioned.{statements_mentions}
use Rattle.ifs_policy.proofs.mention.+mention_block.Goals as goal

pub mention_block-returns : goal.mention_block-returns
mention_block-returns t c =
    let told = ap (block_mentions c.args.half) c.statements-statement-items.ensures.value ∙ statements_mentions c.args.half c.statements-statement-items.result.now in
    grind (arith, common_steps)
