use Rattle.ifs_claims.proofs.Standing.{facts_stay}
use Rattle.ifs_claims.proofs.laws.facts_stay.Goals as goal

pub returns : goal.returns
returns c = facts_stay
