use Rattle.ifs_core.specs.declared.step.Step.TheVariants.{Take}
use Rattle.ifs_core.specs.Steps.{taken_reply}
use Rattle.ifs_core.proofs.Keeping.{answer_keeps}
use Rattle.ifs_core.proofs.gateway.Core.take.Goals as goal

pub returns-clause-kept : goal.returns-clause-kept
returns-clause-kept c =
    answer_keeps c.args.self.now.image c.args.self.now.state c.first_taken.new.self.state Take (taken_reply c.first_taken.result) c.image.ensures.kept c.image.ensures.stands (λ b is. c.first_taken.ensures.run)
