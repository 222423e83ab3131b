use Rattle.ifs_claims.proofs.Standing.{steps_evaluate}
use Rattle.ifs_claims.proofs.laws.steps_evaluate.Goals as goal

pub returns : goal.returns
returns c = steps_evaluate
