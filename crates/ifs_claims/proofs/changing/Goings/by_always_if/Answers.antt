-- By leave.
use Rattle.ifs_claims.proofs.Goes.{always_leave, always_no_leave}
use Rattle.ifs_claims.proofs.changing.Goings.by_always_if.Goals as goal

pub returns-then-not-held-clause-goes : goal.returns-then-not-held-clause-goes
returns-then-not-held-clause-goes c = always_no_leave c.args.held c.args.self.now c.args.left c.args.next c.args.state c.args.before c.if-not-held.true

pub returns-clause-goes : goal.returns-clause-goes
returns-clause-goes c = always_leave c.args.held c.args.self.now c.args.left c.args.next c.args.state c.args.before c.in_ok-after.after c.if-not-held.false c.in_ok-after.ensures.goes
