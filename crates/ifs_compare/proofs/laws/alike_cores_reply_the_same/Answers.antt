use Rattle.ifs_compare.proofs.Runs.{alike_cores_reply_the_same}
use Rattle.ifs_compare.proofs.laws.alike_cores_reply_the_same.Goals as goal

pub returns : goal.returns
returns c = alike_cores_reply_the_same c.image_means_policy.ensures
