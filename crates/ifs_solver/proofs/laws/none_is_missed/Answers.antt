use Rattle.ifs_solver.proofs.OneAnswer.{none_is_missed}
use Rattle.ifs_solver.proofs.laws.none_is_missed.Goals as goal

pub returns : goal.returns
returns c = none_is_missed
