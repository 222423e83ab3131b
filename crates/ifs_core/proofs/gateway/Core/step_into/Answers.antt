use Rattle.ifs_core.specs.declared.step.Step.TheVariants.{Link, Finished, Tick}
use Rattle.ifs_core.specs.Steps.{reply_of}
use Rattle.ifs_core.proofs.Keeping.{answer_keeps}
use Rattle.ifs_core.proofs.gateway.Core.step_into.Goals as goal

pub returns-in-Link-clause-kept : goal.returns-in-Link-clause-kept
returns-in-Link-clause-kept c =
    rw c.in-Link.is (answer_keeps c.args.self.now.image c.args.self.now.state c.link_changes.new.self.state (Link c.in-Link.interface c.in-Link.link) (reply_of c.link_changes.result c.link_changes.new.lists)
    c.image.ensures.kept c.image.ensures.stands c.link_changes.ensures.run)

pub returns-in-Finished-clause-kept : goal.returns-in-Finished-clause-kept
returns-in-Finished-clause-kept c =
    rw c.in-Finished.is (answer_keeps c.args.self.now.image c.args.self.now.state c.test_finishes.new.self.state (Finished c.in-Finished.test c.in-Finished.run' c.in-Finished.value) (reply_of c.test_finishes.result c.test_finishes.new.lists)
    c.image.ensures.kept c.image.ensures.stands c.test_finishes.ensures.run)

pub returns-in-Tick-clause-kept : goal.returns-in-Tick-clause-kept
returns-in-Tick-clause-kept c =
    rw c.in-Tick.is (answer_keeps c.args.self.now.image c.args.self.now.state c.tick.new.self.state (Tick c.in-Tick.now) (reply_of c.tick.result c.tick.new.lists) c.image.ensures.kept c.image.ensures.stands c.tick.ensures.run)
