use Rattle.std.proofs.Common.{◌==◌, sym, ◌∙◌}
use Rattle.ifs_asm.proofs.Cuts.{cut_some, cut_none}
use Rattle.ifs_asm.proofs.lists.cut_at_comma.Goals as goal

pub returns-in-Some-clause-parts : goal.returns-in-Some-clause-parts
returns-in-Some-clause-parts c = cut_some (λ byte. byte == 44) c.args.text.now c.in-Some.place (sym c.comma.ensures ∙ c.in-Some.is)

pub returns-in-None-clause-parts : goal.returns-in-None-clause-parts
returns-in-None-clause-parts c = cut_none (λ byte. byte == 44) c.args.text.now (sym c.comma.ensures ∙ c.in-None.is)
