use Rattle.ifs_claims.proofs.Standing.{states_stay}
use Rattle.ifs_claims.proofs.laws.states_stay.Goals as goal

pub returns : goal.returns
returns c = states_stay
