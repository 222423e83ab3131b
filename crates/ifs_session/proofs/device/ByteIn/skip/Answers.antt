use Rattle.std.proofs.Common.{◌≡◌, arith}
use Rattle.ifs_session.proofs.Skipping.{nothing_skipped, one_skipped}
use Rattle.ifs_session.proofs.device.ByteIn.skip.Goals as goal

pub loop-init : goal.loop-init
loop-init g c = nothing_skipped _ _ _

pub loop-preserved : goal.loop-preserved
loop-preserved g c =
    one_skipped c.args.count c.loop.counter c.next-byte.result _ _ _ _ _ _ _ _ _ c.requires c.loop-test.true c.loop.invariant c.next-byte.ensures.gives c.next-byte.ensures.at_once

pub returns : goal.returns
returns g c =
    let e : c.loop.counter ≡ c.args.count = omega (arith, c.loop-test.false, c.loop.auto.counter-end) in
    rw e at c.loop.invariant
