use Rattle.std.proofs.Common.{sym}
use Rattle.ifs_lex.proofs.Certain.{certain_told}
use Rattle.ifs_lex.proofs.reading.answer.Goals as goal

pub returns-in-Some-clause-wanted : goal.returns-in-Some-clause-wanted
returns-in-Some-clause-wanted c = λ other. certain_told _ _ c.in-Some.fault (sym c.in-Some.ensures)
