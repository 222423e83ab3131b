use Rattle.ifs_policy.proofs.Ordered.{in_order}
use Rattle.ifs_policy.proofs.laws.numbered_by_first_use.Goals as goal

pub returns : goal.returns
returns c = in_order
