use Rattle.ifs_gen.proofs.laws.plain_is_accepted.Goals as goal
use Rattle.ifs_gen.proofs.Limits as limits

pub returns : goal.returns
returns c = limits.plain_is_accepted c.instructions_are_read_back.ensures
