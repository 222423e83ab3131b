use Rattle.memchr.specs.Find.{is_byte}
use Rattle.ifs_asm.proofs.Finds.{found_place}
use Rattle.ifs_asm.proofs.reading.newline.Goals as goal

pub returns : goal.returns
returns c = found_place (is_byte 10) c.args.text.now c.memchr.result c.memchr.ensures
