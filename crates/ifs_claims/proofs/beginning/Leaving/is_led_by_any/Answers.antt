-- State by state.
use Rattle.std.proofs.Common.{arith}
use Rattle.ifs_base.specs.declared.ids.StateId.{StateId}
use Rattle.ifs_claims.proofs.Starts.{not_led_next, unled_now}
use Rattle.ifs_claims.proofs.beginning.Leaving.is_led_by_any.Goals as goal

pub loop-index-init : goal.loop-index-init
loop-index-init c = λ previous lt. absurd (omega (arith, lt))

pub loop-index-preserved : goal.loop-index-preserved
loop-index-preserved c =
    let previous : StateId = record { 0 = c.loop-index.index } in
    not_led_next c.args.self.reachable.now c.args.self.state previous c.loop-index.invariant (unled_now c.args.self.reachable.now c.args.self.state previous c.in_ok-led.led c.if-led.false c.in_ok-led.ensures)

pub returns : goal.returns
returns c = let past = c.loop-index-test.false in λ previous lt. c.loop-index.invariant previous (omega (arith, lt, past))
