use Rattle.ifs_claims.proofs.Cores.{changes_carry_over}
use Rattle.ifs_claims.proofs.laws.changes_carry_over.Goals as goal

pub returns : goal.returns
returns c = changes_carry_over c.image_means_policy.ensures
