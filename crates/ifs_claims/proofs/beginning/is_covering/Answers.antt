-- The body of the state.
use Rattle.std.proofs.Common.{ap}
use Rattle.ifs_claims.proofs.Starts.{covering_said}
use Rattle.ifs_claims.proofs.beginning.is_covering.Goals as goal

pub returns-in-Some : goal.returns-in-Some
returns-in-Some c = covering_said c.args.reachable.now c.args.state c.in-Some.part.now c.always.result.now.body c.shares.result c.in-Some.ensures.there (ap (λ x. x.body) c.always.ensures) c.shares.ensures
