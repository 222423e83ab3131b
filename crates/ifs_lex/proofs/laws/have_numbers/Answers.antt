use Rattle.ifs_lex.proofs.Numbers.{spelled_numbered}
use Rattle.ifs_lex.proofs.laws.have_numbers.Goals as goal

pub returns : goal.returns
returns c = spelled_numbered
