-- The new statements are those of the new block.
use Rattle.std.proofs.Common.{ap, ◌∙◌, arith}
use Rattle.std.proofs.lemmas.Grind.{common_steps}
use Rattle.ifs_claims.specs.inner.Kept.{kept_block}
use Rattle.ifs_claims.proofs.KeptValues.{kept_statements}
use Rattle.ifs_claims.proofs.kept.+kept_block.Goals as goal

pub kept_block-returns : goal.kept_block-returns
kept_block-returns t c =
    let always = c.args.at.always.now in
    let whole = ap (kept_block always) c.statements-statement-items.ensures.value ∙ kept_statements always c.statements-statement-items.result.now in
    grind (arith, common_steps)
