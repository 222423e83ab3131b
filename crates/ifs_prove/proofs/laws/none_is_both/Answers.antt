use Rattle.ifs_prove.proofs.Excluded.{none_is_both}
use Rattle.ifs_prove.proofs.laws.none_is_both.Goals as goal

pub returns : goal.returns
returns c = none_is_both
