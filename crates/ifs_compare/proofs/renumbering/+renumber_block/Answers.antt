-- The new statements are those of the new block.
use Rattle.std.proofs.Common.{ap, ◌∙◌, arith}
use Rattle.std.proofs.lemmas.Grind.{common_steps}
use Rattle.ifs_compare.specs.Renumbering.{renumbered_block}
use Rattle.ifs_compare.proofs.Renumbered.{renumbered_statements}
use Rattle.ifs_compare.proofs.renumbering.+renumber_block.Goals as goal

pub renumber_block-returns : goal.renumber_block-returns
renumber_block-returns t c =
    let from = c.args.numbering.from.now in
    let to = c.args.numbering.to.now in
    let whole = ap (renumbered_block from to) c.statements-statement-items.ensures.value ∙ renumbered_statements from to c.statements-statement-items.result.now in
    grind (arith, common_steps)
