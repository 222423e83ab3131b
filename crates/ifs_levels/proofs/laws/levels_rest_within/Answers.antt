use Rattle.ifs_levels.proofs.Levels.{levels_rest_within}
use Rattle.ifs_levels.proofs.laws.levels_rest_within.Goals as goal

pub returns : goal.returns
returns c = levels_rest_within c.steps_evaluate_once.ensures
