use Rattle.std.proofs.Common.{arith, ◌∙◌}
use Rattle.std.proofs.lemmas.List.Sums.{prefix_len-le-length}
use Rattle.ifs_asm.specs.inner.Words.{goes_on}
use Rattle.memchr.specs.Find.{is_byte2}
use Rattle.ifs_asm.proofs.Finds.{found_before}
use Rattle.ifs_asm.proofs.plain.far_run.Goals as goal

pub returns-in-None : goal.returns-in-None
returns-in-None c =
    let value = c.unwrap_or.ensures ∙ found_before (is_byte2 34 92) c.args.bytes.now c.memchr2.result c.memchr2.ensures in
    record { value = value; within = omega (arith, value, prefix_len-le-length goes_on c.args.bytes.now) }
