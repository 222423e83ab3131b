use Rattle.ifs_machine.proofs.laws.runs_stay_within.Goals as goal
use Rattle.ifs_machine.proofs.Within as within

pub returns : goal.returns
returns c = within.runs_stay_within
