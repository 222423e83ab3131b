-- The law.
use Rattle.ifs_compare.proofs.Real as real
use Rattle.ifs_compare.proofs.laws.differences_are_real.Goals as goal

pub returns : goal.returns
returns c = real.differences_are_real
