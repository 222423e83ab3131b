use Rattle.ifs_asm.proofs.Escapes.{ends_short}
use Rattle.ifs_asm.proofs.quoting.escape_at.Goals as goal

pub returns-in_default-clause-text : goal.returns-in_default-clause-text
returns-in_default-clause-text c = λ whole. ends_short c.args.bytes.now whole c.in_default.len_below
