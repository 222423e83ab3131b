-- One more statement.
use Rattle.std.proofs.Common.{arith}
use Rattle.ifs_gen.proofs.Measuring.{more}
use Rattle.ifs_gen.proofs.measure.+measure_block.Goals as goal

pub measure_block-loop-statement-preserved : goal.measure_block-loop-statement-preserved
measure_block-loop-statement-preserved t c =
    let next = more c.statements-statement-items.result.now c.loop-statement.statement-index c.statement-item.result c.loop-statement-test.true c.statement-item.is in
    let before = c.loop-statement.invariant in
    let statement = c.measure_statement.ensures in
    let joined = c.followed-measure.ensures in
    record {
      size = let a = before.size in let b = statement.size in let d = joined.size in let e = next.size in omega (arith, a, b, d, e);
      height = let a = before.height in let b = statement.height in let d = joined.height in let e = next.height in omega (arith, a, b, d, e);
      runs = let a = before.runs in let b = statement.runs in let d = joined.runs in let e = next.runs in omega (arith, a, b, d, e);
    }
