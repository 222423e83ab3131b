-- Command by command.
use Rattle.std.proofs.Common.{refl, subst}
use Rattle.std.proofs.lemmas.Bool.{OnTrue_at}
use Rattle.ifs_core.specs.Steps.{Makes, take_turn, taken_reply}
use Rattle.ifs_prove.proofs.Queues.{has_waited}
use Rattle.ifs_prove.proofs.making.has_queued.Goals as goal

pub returns-then-is_one_of : goal.returns-then-is_one_of
returns-then-is_one_of c =
    let before = c.loop.core.state in
    let other = c.in-Some.other in
    let waited = has_waited other other before.queue before c.take.new.self.state (subst (λ r. Makes (take_turn before.queue before) (taken_reply r) c.take.new.self.state) c.in-Some.is c.take.ensures.run) in
    (other, c.if-is_one_of.ensures, c.loop.invariant other (waited.itself refl))

pub loop-preserved : goal.loop-preserved
loop-preserved c = λ command e.
    let before = c.loop.core.state in
    let waited = has_waited command c.in-Some.other before.queue before c.take.new.self.state (subst (λ r. Makes (take_turn before.queue before) (taken_reply r) c.take.new.self.state) c.in-Some.is c.take.ensures.run) in
    c.loop.invariant command (waited.others e)
