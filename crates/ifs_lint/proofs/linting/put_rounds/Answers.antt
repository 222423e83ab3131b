-- One more finding, on a round.
use Rattle.ifs_lint.proofs.Adding.{on_round, one_more_finding}
use Rattle.ifs_lint.proofs.linting.put_rounds.Goals as goal

pub loop-flap-preserved : goal.loop-flap-preserved
loop-flap-preserved c =
    let policy = c.args.policy.now in
    let finding = c.in_ok-finding.finding in
    one_more_finding policy c.loop-flap.findings.items c.push.new.self.items finding c.in_ok-push.ensures.items
    (on_round policy finding c.args.found.now c.flap-item.result c.loop-flap.flap-index c.requires.found c.loop-flap-test.true c.flap-item.is c.in_ok-finding.ensures.kind c.in_ok-finding.ensures.defect c.in_ok-finding.ensures.states)
    c.loop-flap.invariant
