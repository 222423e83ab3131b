-- What was judged.
use Rattle.ifs_claims.proofs.Leading.{entry_told}
use Rattle.ifs_claims.proofs.claims.never_enters.Goals as goal

pub returns : goal.returns
returns c = entry_told c.args.reachable.now c.args.state c.extent.result c.extent.ensures
