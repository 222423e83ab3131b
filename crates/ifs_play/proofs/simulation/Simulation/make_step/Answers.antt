-- One more step.
use Rattle.std.proofs.Common.{sym, subst}
use Rattle.ifs_play.specs.Made.{HasMade}
use Rattle.ifs_play.specs.Played.{HasPlayed}
use Rattle.ifs_play.proofs.Made.{made_one}
use Rattle.ifs_play.proofs.simulation.Simulation.make_step.Goals as goal

pub returns : goal.returns
returns c = λ policy known h.
    let before = c.self.inside in
    subst (λ steps. HasMade policy known steps c.step-reply.new.self) (sym c.in_ok-push.ensures.items)
    (made_one policy known before.steps.items before.core c.args.step c.step-reply.result c.step-reply.new.self c.step-reply.ensures.image c.step-reply.ensures.run
    (subst (HasPlayed policy known) (sym c.self.view_is) h))
