use Rattle.ifs_gen.proofs.InOtherWords.FirstShared.{shared_are_first}
use Rattle.ifs_gen.proofs.laws.first_are_shared.Goals as goal

pub returns : goal.returns
returns c = shared_are_first c.instructions_are_read_back.ensures
