use Rattle.ifs_levels.proofs.Levels.{levels_stay_within}
use Rattle.ifs_levels.proofs.laws.levels_stay_within.Goals as goal

pub returns : goal.returns
returns c = levels_stay_within c.steps_evaluate_once.ensures
