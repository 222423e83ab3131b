use Rattle.std.proofs.Common.{arith, refl, rules}
use Rattle.std.proofs.lemmas.Grind.{common_steps}
use Rattle.std.specs.Io.Take.{take_remaining}
use Rattle.ifs_host.proofs.Whole.{whole}
use Rattle.ifs_host.proofs.files.read_whole.Goals as goal

pub returns-else-len-gt-LIMIT-clause-every_byte : goal.returns-else-len-gt-LIMIT-clause-every_byte
returns-else-len-gt-LIMIT-clause-every_byte g c =
    whole c.take.result.limit (g.R.Read.remaining c.args.reader)
    (take_remaining g.R.Read.remaining c.take.result)
    c.new-bytes.result.items c.read_to_end.new.buf.items
    (rw c.take.ensures.inner refl)
    c.new-bytes.ensures.items
    (grind (arith, common_steps, rules, c.take.ensures.limit))
    c.in_ok-read_to_end.ensures.bytes
