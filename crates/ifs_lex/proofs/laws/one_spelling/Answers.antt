use Rattle.ifs_lex.proofs.Spellings.{spelling_found, spelling_only}
use Rattle.ifs_lex.proofs.laws.one_spelling.Goals as goal

pub returns-clause-found : goal.returns-clause-found
returns-clause-found c = spelling_found

pub returns-clause-only : goal.returns-clause-only
returns-clause-only c = spelling_only
