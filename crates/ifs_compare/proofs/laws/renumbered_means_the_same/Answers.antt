use Rattle.ifs_compare.proofs.Meant.{renumbered_means_the_same}
use Rattle.ifs_compare.proofs.laws.renumbered_means_the_same.Goals as goal

pub returns : goal.returns
returns c = renumbered_means_the_same
