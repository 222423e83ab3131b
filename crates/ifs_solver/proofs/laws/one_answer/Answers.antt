use Rattle.ifs_solver.proofs.OneAnswer.{one_answer}
use Rattle.ifs_solver.proofs.laws.one_answer.Goals as goal

pub returns : goal.returns
returns c = one_answer
