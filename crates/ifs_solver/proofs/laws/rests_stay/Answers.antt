use Rattle.ifs_solver.proofs.Situated.{rests_stay}
use Rattle.ifs_solver.proofs.laws.rests_stay.Goals as goal

pub returns : goal.returns
returns c = rests_stay
