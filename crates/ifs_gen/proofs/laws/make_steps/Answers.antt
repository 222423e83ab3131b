use Rattle.std.proofs.Common.{◌∙◌}
use Rattle.std.proofs.lemmas.Option.{slice_get-get_or}
use Rattle.ifs_gen.proofs.CoreOfText.{lead_next}
use Rattle.ifs_gen.proofs.laws.make_steps.Goals as goal

pub loop-step-preserved : goal.loop-step-preserved
loop-step-preserved c = record {
  image = c.step.ensures.image ∙ c.loop-step.invariant.image;
  leads =
      lead_next c.args.core.now.image c.args.steps.now c.loop-step.step-index c.loop-step.replies.items c.push.new.self.items c.args.core.now.state c.loop-step.core.state c.step.new.self.state _ c.step.result
      (slice_get-get_or c.args.steps.now c.loop-step.step-index _ c.loop-step-test.true) (c.in_ok-push.ensures.items) c.loop-step.invariant.leads (rw c.loop-step.invariant.image at c.step.ensures.run);
}
