use Rattle.ifs_asm.proofs.Escapes.{no_digits}
use Rattle.ifs_asm.proofs.quoting.hexadecimal.Goals as goal

pub returns-in_default-clause-text : goal.returns-in_default-clause-text
returns-in_default-clause-text c = no_digits c.args.bytes.now c.in_default.len_below
