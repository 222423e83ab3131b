use Rattle.ifs_asm.proofs.Cuts.{value_is}
use Rattle.ifs_asm.proofs.quoting.hex_value.Goals as goal

pub returns-clause-value : goal.returns-clause-value
returns-clause-value c = value_is c.args.byte c.digit_value.result c.digit_value.ensures
