use Rattle.ifs_session.proofs.OneAnswer.{one_answer}
use Rattle.ifs_session.proofs.laws.no_line_is_good_and_broken.Goals as goal

pub returns : goal.returns
returns c = one_answer
