use Rattle.ifs_lex.proofs.Endings.{spelled_ends_once}
use Rattle.ifs_lex.proofs.laws.ends_once.Goals as goal

pub returns : goal.returns
returns c = spelled_ends_once
