-- By what its body asks for and may wish for.
use Rattle.ifs_claims.proofs.Starts.{covers_held, unled_held}
use Rattle.ifs_claims.proofs.beginning.Leaving.is_led_held.Goals as goal

pub returns-then-is_covering : goal.returns-then-is_covering
returns-then-is_covering c = covers_held c.args.self.reachable.now c.args.self.state c.args.previous c.if-is_covering.ensures

pub returns : goal.returns
returns c = unled_held c.args.self.reachable.now c.args.self.state c.args.previous c.in_ok-led.led c.in_ok-led.ensures
