use Rattle.ifs_image.proofs.ImageLaws.{Spells-prefix}
use Rattle.ifs_image.proofs.laws.prefix_free.Goals as goal

pub returns : goal.returns
returns c = Spells-prefix
