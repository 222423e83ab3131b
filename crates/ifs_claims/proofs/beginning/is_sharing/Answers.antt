-- The body of the state.
use Rattle.std.proofs.Common.{ap}
use Rattle.ifs_claims.proofs.Starts.{sharing_said}
use Rattle.ifs_claims.proofs.beginning.is_sharing.Goals as goal

pub returns-in-Some : goal.returns-in-Some
returns-in-Some c = sharing_said c.args.reachable.now c.args.state c.in-Some.part.now c.always.result.now.body c.shares.result c.in-Some.ensures.there (ap (λ x. x.body) c.always.ensures) c.shares.ensures
