-- No step was made.
use Rattle.std.proofs.Common.{[], sym, subst}
use Rattle.ifs_core.specs.Gateway.{nothing_known}
use Rattle.ifs_gen.specs.PolicyImage.{image_of}
use Rattle.ifs_play.specs.Made.{HasMade}
use Rattle.ifs_play.proofs.simulation.Simulation.open.Goals as goal

pub returns-in_ok-new-in-Some : goal.returns-in_ok-new-in-Some
returns-in_ok-new-in-Some c = λ policy fits written.
    let known = nothing_known (image_of policy) in
    let it = c.in_ok-new-in-Some.field-0 in
    subst (λ steps. HasMade policy known steps it.core) (sym c.in_ok-new-in-Some.ensures.steps)
    (subst (HasMade policy known []) (sym c.in_ok-new-in-Some.ensures.core) (rw c.in-Some.is at c.in_ok-core.ensures policy fits written))
