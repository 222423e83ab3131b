-- No facts let its body wish for the state.
use Rattle.ifs_claims.proofs.Starts.{not_led_itself, not_led_never, not_led_asked}
use Rattle.ifs_claims.proofs.beginning.Leaving.is_led.Goals as goal

pub returns-then-previous-self : goal.returns-then-previous-self
returns-then-previous-self c = not_led_itself c.args.self.reachable.now c.args.self.state c.args.previous c.if-previous-self.true

pub returns-then-is_never : goal.returns-then-is_never
returns-then-is_never c = not_led_never c.args.self.reachable.now c.args.self.state c.args.previous c.if-is_never.ensures

pub returns-in-Nowhere : goal.returns-in-Nowhere
returns-in-Nowhere c = not_led_asked c.args.self.reachable.now c.args.self.state c.args.previous c.in-Some.part.now c.scope.result c.in_ok-extent.extent c.in-Some.ensures.there c.scope.ensures c.in-Nowhere.is c.in_ok-extent.ensures.extent
