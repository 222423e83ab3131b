use Rattle.ifs_claims.proofs.Standing.{owed_are_fresh}
use Rattle.ifs_claims.proofs.laws.owed_are_fresh.Goals as goal

pub returns : goal.returns
returns c = owed_are_fresh
