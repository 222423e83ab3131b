use Rattle.ifs_claims.proofs.Cores.{claims_carry_over}
use Rattle.ifs_claims.proofs.laws.claims_carry_over.Goals as goal

pub returns : goal.returns
returns c = claims_carry_over c.image_means_policy.ensures
