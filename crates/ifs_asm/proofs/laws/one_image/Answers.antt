use Rattle.ifs_asm.proofs.ImageLaws.{one_image}
use Rattle.ifs_asm.proofs.laws.one_image.Goals as goal

pub returns : goal.returns
returns c = one_image
