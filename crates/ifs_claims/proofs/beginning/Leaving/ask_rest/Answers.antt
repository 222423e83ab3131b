-- From a rest.
use Rattle.ifs_claims.proofs.Starts.{rest_said, held_known}
use Rattle.ifs_claims.proofs.Goes.{starts_said}
use Rattle.ifs_claims.proofs.beginning.Leaving.ask_rest.Goals as goal

pub returns : goal.returns
returns c =
    rest_said c.args.self.reachable.now c.args.self.most c.args.self.state c.may_wait_in-own.result c.in_ok-held.held c.in_ok-extent.extent c.search-goings.ensures.fits c.may_wait_in-own.ensures
    (held_known c.args.self.reachable.now c.args.self.state c.in_ok-held.held c.in_ok-held.ensures)
    (starts_said c.args.self.reachable.now c.search-goings.result c.search-goings.ensures.is c.may_wait_in-own.result c.in_ok-held.held c.args.self.most c.from.result c.args.self.state c.in_ok-extent.extent c.from.ensures c.in_ok-extent.ensures.goes)
