use Rattle.ifs_asm.specs.inner.Words.{goes_on}
use Rattle.ifs_asm.proofs.Blocks.{ends_within}
use Rattle.ifs_asm.proofs.plain.near_quote.Goals as goal

pub returns-else-ends-eq0 : goal.returns-else-ends-eq0
returns-else-ends-eq0 g c =
    let cut = c.in_ok-block.ensures.cases in
    let run = ends_within goes_on g.row.N c.quotes_in-ends.result c.args.bytes.now c.in_ok-block.block.now c.in_ok-block.field-0-1.now c.requires cut.0 cut.2 c.quotes_in-ends.ensures c.if-ends-eq0.false in
    record { value = run.value; within = run.within }
