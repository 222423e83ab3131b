use Rattle.ifs_parse.specs.Words.{fits_period}
use Rattle.ifs_parse.proofs.Whole.{one_file}
use Rattle.ifs_parse.proofs.laws.one_tree.Goals as goal

pub returns : goal.returns
returns c = one_file fits_period 32
