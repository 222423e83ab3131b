use Rattle.ifs_solver.proofs.Situated.{closed_holds}
use Rattle.ifs_solver.proofs.laws.closed_holds.Goals as goal

pub returns : goal.returns
returns c = closed_holds
