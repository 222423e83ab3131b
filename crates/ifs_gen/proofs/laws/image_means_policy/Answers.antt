use Rattle.ifs_gen.proofs.laws.image_means_policy.Goals as goal
use Rattle.ifs_gen.proofs.Lifting as lifting

pub returns : goal.returns
returns c = lifting.image_means_policy c.instructions_are_read_back.ensures c.accepted_is_kept.ensures
