use Rattle.ifs_gen.proofs.InOtherWords.Heights.{heights_are_greatest}
use Rattle.ifs_gen.proofs.laws.heights_are_greatest.Goals as goal

pub returns : goal.returns
returns c = heights_are_greatest
