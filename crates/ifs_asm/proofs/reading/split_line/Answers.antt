use Rattle.std.proofs.Common.{sym, ◌∙◌}
use Rattle.ifs_asm.proofs.Told.{lines_some, lines_last}
use Rattle.ifs_asm.proofs.reading.split_line.Goals as goal

pub returns-in-Some-clause-cut : goal.returns-in-Some-clause-cut
returns-in-Some-clause-cut c = lines_some c.args.text.now c.in-Some.place (sym c.newline.ensures ∙ c.in-Some.is)

pub returns-in-None-clause-cut : goal.returns-in-None-clause-cut
returns-in-None-clause-cut c = lines_last c.args.text.now c.requires (sym c.newline.ensures ∙ c.in-None.is)
