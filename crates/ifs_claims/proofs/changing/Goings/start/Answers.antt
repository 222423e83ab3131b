-- One state after the other.
use Rattle.std.proofs.Common.{arith}
use Rattle.ifs_claims.proofs.Goes.{starts_none, starts_more, starts_all, same_still, same_again}
use Rattle.ifs_claims.proofs.changing.Goings.start.Goals as goal

pub loop-next-init : goal.loop-next-init
loop-next-init c = record { below = starts_none c.args.own c.args.held c.args.self.now c.args.left c.args.state c.args.before; back = same_still c.args.self.now }

pub loop-next-preserved : goal.loop-next-preserved
loop-next-preserved c =
    record {
      below =
          starts_more c.args.own c.args.held c.args.self.now c.loop-next.self c.args.left c.loop-next.next c.args.state c.args.before c.loop-next.extent c.in_ok-extent.extent c.loop-next.invariant.back
          c.loop-next.invariant.below c.in_ok-extent.ensures.goes;
      back = same_again c.args.self.now c.loop-next.self c.start_to.new.self c.loop-next.invariant.back c.in_ok-extent.ensures.stays;
    }

pub returns-clause-goes : goal.returns-clause-goes
returns-clause-goes c =
    starts_all c.args.own c.args.held c.args.self.now c.args.left c.loop-next.next c.args.state c.args.before c.loop-next.extent (omega (arith, c.loop-next-test.false, c.loop-next.auto.next-end)) c.loop-next.invariant.below
