use Rattle.ifs_image.proofs.ImageLaws.{Spells-unique}
use Rattle.ifs_image.proofs.laws.one_image.Goals as goal

pub returns : goal.returns
returns c = Spells-unique
