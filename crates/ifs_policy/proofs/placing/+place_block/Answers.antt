-- The placed statements are those of the placed block.
use Rattle.std.proofs.Common.{ap, ◌∙◌, arith}
use Rattle.std.proofs.lemmas.Grind.{common_steps}
use Rattle.ifs_policy.specs.Resolution.{place_block}
use Rattle.ifs_policy.proofs.Places.{place_statements}
use Rattle.ifs_policy.proofs.placing.+place_block.Goals as goal

pub place_block-returns : goal.place_block-returns
place_block-returns t c =
    let whole = ap (place_block c.args.tables.now) c.statements-statement-items.ensures.value ∙ place_statements c.args.tables.now c.statements-statement-items.result.now in
    grind (arith, common_steps)
