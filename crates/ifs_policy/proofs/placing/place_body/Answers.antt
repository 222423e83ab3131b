-- The placed statements are those of the placed body.
use Rattle.std.proofs.Common.{ap, ◌∙◌, arith}
use Rattle.std.proofs.lemmas.Grind.{common_steps}
use Rattle.ifs_policy.specs.Resolution.{place_block}
use Rattle.ifs_policy.specs.inner.Sized.{borrowed}
use Rattle.ifs_policy.proofs.Places.{body_is, place_statements, statements_in}
use Rattle.ifs_policy.proofs.placing.place_body.Goals as goal

pub returns : goal.returns
returns c =
    let parts = borrowed c.args.parts.now in
    let whole = ap (place_block c.args.tables.now) (body_is parts) ∙ place_statements c.args.tables.now (statements_in parts) in
    grind (arith, common_steps)
