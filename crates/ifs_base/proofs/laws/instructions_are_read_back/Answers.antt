use Rattle.ifs_base.proofs.ReadBack.{read_back}
use Rattle.ifs_base.proofs.laws.instructions_are_read_back.Goals as goal

pub returns : goal.returns
returns c = read_back
