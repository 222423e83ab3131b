use Rattle.ifs_levels.proofs.Levels.{levels_closed}
use Rattle.ifs_levels.proofs.laws.levels_closed.Goals as goal

pub returns : goal.returns
returns c = levels_closed c.steps_evaluate_once.ensures
