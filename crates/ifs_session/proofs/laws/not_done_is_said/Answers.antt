use Rattle.ifs_session.proofs.ReadBack.{not_done_is_said}
use Rattle.ifs_session.proofs.laws.not_done_is_said.Goals as goal

pub returns : goal.returns
returns c = not_done_is_said
