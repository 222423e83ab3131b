use Rattle.ifs_policy.proofs.Named.{names_give_the_tree}
use Rattle.ifs_policy.proofs.laws.names_give_the_tree.Goals as goal

pub returns : goal.returns
returns c = names_give_the_tree
