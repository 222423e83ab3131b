use Rattle.ifs_parse.proofs.Operands.{noted_two, two_noted}
use Rattle.ifs_parse.proofs.laws.one_note.Goals as goal

pub returns-clause-noted : goal.returns-clause-noted
returns-clause-noted c = noted_two

pub returns-clause-only : goal.returns-clause-only
returns-clause-only c = two_noted
