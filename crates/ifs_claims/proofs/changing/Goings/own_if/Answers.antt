-- By leave.
use Rattle.ifs_claims.proofs.Goes.{own_leave, own_no_leave}
use Rattle.ifs_claims.proofs.changing.Goings.own_if.Goals as goal

pub returns-then-not-own-clause-goes : goal.returns-then-not-own-clause-goes
returns-then-not-own-clause-goes c = own_no_leave c.args.own c.args.self.now c.args.left c.args.next c.args.state c.args.before c.if-not-own.true

pub returns-clause-goes : goal.returns-clause-goes
returns-clause-goes c = own_leave c.args.own c.args.self.now c.args.left c.args.next c.args.state c.args.before c.in_ok-after.after c.if-not-own.false c.in_ok-after.ensures.goes
