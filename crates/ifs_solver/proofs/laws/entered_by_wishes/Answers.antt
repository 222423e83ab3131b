use Rattle.ifs_solver.proofs.Situated.{entered_by_wishes}
use Rattle.ifs_solver.proofs.laws.entered_by_wishes.Goals as goal

pub returns : goal.returns
returns c = entered_by_wishes
