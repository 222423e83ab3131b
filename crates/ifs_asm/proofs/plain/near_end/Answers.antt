use Rattle.std.proofs.Common.{arith}
use Rattle.ifs_asm.specs.Spellings.{is_plain}
use Rattle.ifs_asm.proofs.Blocks.{ends_within}
use Rattle.ifs_asm.proofs.plain.near_end.Goals as goal

pub returns-else-ends-eq0 : goal.returns-else-ends-eq0
returns-else-ends-eq0 c =
    let cut = c.in_ok-block.ensures.cases in
    let run = ends_within is_plain 16 c.others_in-ends.result c.args.bytes.now c.in_ok-block.block.now c.in_ok-block.field-0-1.now (omega arith) cut.0 cut.2 c.others_in-ends.ensures c.if-ends-eq0.false in
    record { value = run.value; within = run.within }
