use Rattle.ifs_claims.proofs.Standing.{steps_evaluate_once}
use Rattle.ifs_claims.proofs.laws.steps_evaluate_once.Goals as goal

pub returns : goal.returns
returns c = steps_evaluate_once
