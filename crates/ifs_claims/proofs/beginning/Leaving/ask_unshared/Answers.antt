-- By what the body of the other state may wish for.
use Rattle.ifs_claims.proofs.Starts.{entry_by_any, entry_by_always, unled}
use Rattle.ifs_claims.proofs.beginning.Leaving.ask_unshared.Goals as goal

pub returns-then-led : goal.returns-then-led
returns-then-led c = entry_by_any c.args.self.reachable.now c.args.self.most c.args.self.state c.args.previous c.args.far c.requires

pub returns : goal.returns
returns c = entry_by_always c.args.self.reachable.now c.args.self.most c.args.self.state c.args.previous c.active_are_mentioned.ensures c.in_ok-extent.extent (unled c.args.self.reachable.now c.args.self.state c.args.previous c.in_ok-led.led c.if-led.false c.in_ok-led.ensures) c.in_ok-extent.ensures
