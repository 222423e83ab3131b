use Rattle.std.proofs.Common.{ℕ, List, map, ap, ◌∙◌}
use Rattle.std.proofs.lemmas.List.{length-map}
use Rattle.ifs_base.specs.declared.op.LinkState.{LinkState}
use Rattle.ifs_image.specs.declared.parts.ImageParts.{ImageParts}
use Rattle.ifs_core.specs.declared.carried.NamedLink.{NamedLink}
use Rattle.ifs_core.specs.Carrying.{known_by, link_named}
use Rattle.ifs_core.specs.Gateway.{opened}
use Rattle.ifs_core.proofs.Keeping.{opened_keeps}
use Rattle.ifs_core.proofs.gateway.Core.open_with.Goals as goal

pub returns-clause-kept : goal.returns-clause-kept
returns-clause-kept c =
    let next = c.args.next in
    let carried = c.args.carried in
    let links =
    c.links_by_name-links.ensures.value
    ∙ ap (λ (l : List NamedLink). map (link_named l) c.image.result.now.interfaces) c.links.ensures
    ∙ ap (λ (i : ImageParts). map (link_named carried.links) i.interfaces) c.image.ensures.value in
    opened_keeps next (known_by carried next) c.started-core.result.state (rw c.started-core.ensures.image at c.image-2.ensures.kept)
    (length-map next.interfaces (link_named carried.links))
    (λ b is. c.started-core.ensures.state b is
    ∙ ap (λ (l : List LinkState). opened b next (record { links = l; first_run = c.next_run-first_run.result })) links
    ∙ ap (λ (r : ℕ). opened b next (record { links = map (link_named carried.links) next.interfaces; first_run = r })) c.next_run-first_run.ensures)
