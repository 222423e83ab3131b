-- By the always body, with one change more.
use Rattle.std.proofs.Common.{◌+◌, add-one, sym, ap, ◌∙◌, suc}
use Rattle.ifs_claims.proofs.Goes.{wished_far_said}
use Rattle.ifs_claims.proofs.beginning.Leaving.ask_always.Goals as goal

pub returns : goal.returns
returns c =
    wished_far_said c.args.self.reachable.now c.search-goings.result c.search-goings.ensures.is c.args.self.most (c.from.result + 1) c.args.self.state c.always.result.now.body c.in_ok-extent.extent (add-one c.from.result ∙ ap suc c.from.ensures)
    (ap (λ x. x.body) c.always.ensures ∙ sym c.search-goings.ensures.is.always) c.in_ok-extent.ensures.goes
