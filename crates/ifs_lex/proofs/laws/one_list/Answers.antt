use Rattle.ifs_lex.proofs.Endings.{spelled_once}
use Rattle.ifs_lex.proofs.laws.one_list.Goals as goal

pub returns : goal.returns
returns c = spelled_once
