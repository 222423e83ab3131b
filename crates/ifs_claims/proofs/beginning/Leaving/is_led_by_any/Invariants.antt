-- The states before this one.
use Rattle.ifs_claims.specs.inner.Changing.{AreNotLed}
use Rattle.ifs_claims.proofs.beginning.Leaving.is_led_by_any.Given as goal

abbrev pub invariant-loop-index : goal.invariant-loop-index
invariant-loop-index l = AreNotLed l.self.reachable.now l.self.state l.index
