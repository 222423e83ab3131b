-- To the state, with one change more.
use Rattle.std.proofs.Common.{◌+◌, add-one, ap, ◌∙◌, suc}
use Rattle.ifs_claims.proofs.Goes.{led_far_said}
use Rattle.ifs_claims.proofs.beginning.Leaving.ask_shared.Goals as goal

pub returns : goal.returns
returns c =
    led_far_said c.args.self.reachable.now c.search-goings.result c.search-goings.ensures.is c.args.self.most (c.from.result + 1) c.args.self.state c.args.previous c.in_ok-extent.extent (add-one c.from.result ∙ ap suc c.from.ensures)
    c.in_ok-extent.ensures.goes
