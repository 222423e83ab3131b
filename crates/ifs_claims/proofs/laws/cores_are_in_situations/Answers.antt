use Rattle.ifs_claims.proofs.Cores.{cores_are_in_situations}
use Rattle.ifs_claims.proofs.laws.cores_are_in_situations.Goals as goal

pub returns : goal.returns
returns c = cores_are_in_situations c.image_means_policy.ensures
