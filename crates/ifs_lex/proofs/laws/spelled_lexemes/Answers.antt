use Rattle.ifs_lex.proofs.Whole.{spelled_lexemes, value_lexemes}
use Rattle.ifs_lex.proofs.laws.spelled_lexemes.Goals as goal

pub returns-clause-text : goal.returns-clause-text
returns-clause-text c = spelled_lexemes

pub returns-clause-value : goal.returns-clause-value
returns-clause-value c = value_lexemes
