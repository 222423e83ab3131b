use Rattle.std.proofs.Common.{List, ap, ◌∙◌}
use Rattle.std.proofs.lemmas.List.{length-map}
use Rattle.ifs_base.specs.declared.op.LinkState.{LinkState}
use Rattle.ifs_base.specs.declared.op.LinkState.TheVariants.{Unknown}
use Rattle.ifs_image.specs.declared.parts.ImageParts.{ImageParts}
use Rattle.ifs_core.specs.Machine.{all_unknown}
use Rattle.ifs_core.specs.Gateway.{nothing_known, opened}
use Rattle.ifs_core.proofs.Keeping.{opened_keeps}
use Rattle.ifs_core.proofs.gateway.Core.open.Goals as goal

pub returns-in-Ok-clause-kept : goal.returns-in-Ok-clause-kept
returns-in-Ok-clause-kept c =
    let links = c.unknown_links-links.ensures.value ∙ ap (λ (i : ImageParts). all_unknown i) c.image.ensures.value in
    opened_keeps c.args.verified (nothing_known c.args.verified) c.started-core.result.state (rw c.started-core.ensures.image at c.image-in-Ok.ensures.kept)
    (length-map c.args.verified.interfaces (λ _. Unknown))
    (λ b is. c.started-core.ensures.state b is ∙ ap (λ (l : List LinkState). opened b c.args.verified (record { links = l; first_run = 1 })) links)
