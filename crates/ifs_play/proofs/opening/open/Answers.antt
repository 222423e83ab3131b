-- Nothing is known at the opening.
use Rattle.std.proofs.lemmas.List.{length-map}
use Rattle.ifs_base.specs.declared.op.LinkState.TheVariants.{Unknown}
use Rattle.ifs_core.specs.Gateway.{nothing_known}
use Rattle.ifs_gen.specs.PolicyImage.{image_of}
use Rattle.ifs_play.proofs.Opened.{opened_made}
use Rattle.ifs_play.proofs.opening.open.Goals as goal

pub returns-in-Ok : goal.returns-in-Ok
returns-in-Ok c = λ policy fits written.
    opened_made nothing_known policy c.args.image.now c.in-Some.verified c.in-Ok.core fits written (rw c.in-Some.is at c.in_ok-found.ensures policy written) (length-map (image_of policy).interfaces (λ _. Unknown)) c.in-Ok.ensures.image c.image.ensures.kept
    c.in-Ok.ensures.state
