-- The block in a statement is smaller.
use Rattle.std.proofs.Common.{ap, arith}
use Rattle.ifs_solver.specs.inner.Judging.{inner_size}
use Rattle.ifs_solver.proofs.Chained.{inner_below}
use Rattle.ifs_compare.proofs.identity.+same_block.Goals as goal

pub same_statements-same_statement-requires : goal.same_statements-same_statement-requires
same_statements-same_statement-requires t c =
    let below = inner_below c.args.one.now c.loop-index.index c.index-one-index.result c.loop-index-test.true in
    let same = ap inner_size c.index-one-index.is in
    (omega (arith, below, same), tt)
