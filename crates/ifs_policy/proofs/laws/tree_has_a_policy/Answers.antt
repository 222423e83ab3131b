use Rattle.ifs_policy.proofs.Whole as once
use Rattle.ifs_policy.proofs.laws.tree_has_a_policy.Goals as goal

pub returns : goal.returns
returns c = once.tree_has_a_policy
