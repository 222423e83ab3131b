use Rattle.ifs_gen.proofs.laws.sizes_are_lengths.Goals as goal
use Rattle.ifs_gen.proofs.Sized as sized

pub returns : goal.returns
returns c = sized.sizes_are_lengths c.instructions_are_read_back.ensures
