use Rattle.std.proofs.Common.{sym}
use Rattle.ifs_parse.specs.Words.{fits_period}
use Rattle.ifs_parse.proofs.Certain.{certain_told}
use Rattle.ifs_parse.proofs.parsing.answer.Goals as goal

pub returns-in-Some-clause-wanted : goal.returns-in-Some-clause-wanted
returns-in-Some-clause-wanted c = λ other. certain_told fits_period 32 _ c.in-Some.fault (sym c.in-Some.ensures)
