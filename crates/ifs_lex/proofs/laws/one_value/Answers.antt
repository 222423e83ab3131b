use Rattle.ifs_lex.proofs.Spelt.{says, said}
use Rattle.ifs_lex.proofs.laws.one_value.Goals as goal

pub returns-clause-some : goal.returns-clause-some
returns-clause-some c = says

pub returns-clause-only : goal.returns-clause-only
returns-clause-only c = said
