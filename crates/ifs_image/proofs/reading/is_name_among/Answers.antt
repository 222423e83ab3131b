use Rattle.std.proofs.Common.{sym, ◌∙◌}
use Rattle.ifs_image.proofs.Names.{stands_in-names_of}
use Rattle.ifs_image.proofs.reading.is_name_among.Goals as goal

pub returns : goal.returns
returns c = c.have_name.ensures ∙ sym (stands_in-names_of c.args.name.now c.args.states.now)
