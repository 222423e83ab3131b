-- The bytes spell one image.
use Rattle.ifs_gen.specs.PolicyImage.{image_of}
use Rattle.ifs_play.proofs.opening.accepted.Goals as goal

pub returns-in-Ok : goal.returns-in-Ok
returns-in-Ok c = λ policy written. c.one_image.ensures c.args.image.now c.in-Ok.verified (image_of policy) c.in-Ok.ensures.spelled written.spelled
