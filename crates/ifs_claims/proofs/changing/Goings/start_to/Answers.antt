-- Both bodies.
use Rattle.ifs_claims.proofs.Goes.{leave_itself, leave_goes}
use Rattle.ifs_claims.proofs.changing.Goings.start_to.Goals as goal

pub returns-then-next-state-clause-goes : goal.returns-then-next-state-clause-goes
returns-then-next-state-clause-goes c = leave_itself c.args.own c.args.held c.args.self.now c.args.left c.args.next c.args.state c.args.before c.if-next-state.true

pub returns-clause-goes : goal.returns-clause-goes
returns-clause-goes c =
    leave_goes c.args.own c.args.held c.args.self.now c.own_if.new.self c.args.left c.args.next c.args.state c.args.before c.in_ok-by_own.by_own c.in_ok-after.after c.if-next-state.false c.in_ok-by_own.ensures.stays
    c.in_ok-by_own.ensures.goes c.in_ok-after.ensures.goes
