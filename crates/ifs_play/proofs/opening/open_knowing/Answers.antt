-- What was carried is known at the opening.
use Rattle.std.proofs.lemmas.List.{length-map}
use Rattle.ifs_core.specs.Carrying.{known_by, link_named}
use Rattle.ifs_gen.specs.PolicyImage.{image_of}
use Rattle.ifs_play.proofs.Opened.{opened_made}
use Rattle.ifs_play.proofs.opening.open_knowing.Goals as goal

pub returns : goal.returns
returns c = λ policy fits written.
    opened_made (known_by c.args.carried) policy c.args.image.now c.in-Some.verified c.open_with-core.result fits written (rw c.in-Some.is at c.in_ok-found.ensures policy written)
    (length-map (image_of policy).interfaces (link_named c.args.carried.links)) c.open_with-core.ensures.image c.image.ensures.kept c.open_with-core.ensures.state
