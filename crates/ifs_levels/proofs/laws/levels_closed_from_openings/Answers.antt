use Rattle.ifs_levels.proofs.Levels.{levels_closed_from_openings}
use Rattle.ifs_levels.proofs.laws.levels_closed_from_openings.Goals as goal

pub returns : goal.returns
returns c = levels_closed_from_openings c.steps_evaluate_once.ensures
