use Rattle.ifs_image.proofs.StopImages.{fields_spell}
use Rattle.ifs_image.proofs.laws.fields_spell.Goals as goal

pub returns : goal.returns
returns c = fields_spell
