use Rattle.ifs_asm.proofs.ImageLaws.{canonical_spells}
use Rattle.ifs_asm.proofs.laws.canonical_text_spells_its_image.Goals as goal

pub returns : goal.returns
returns c = canonical_spells
