-- The block in a statement is smaller.
use Rattle.std.proofs.Common.{ap, arith}
use Rattle.ifs_solver.specs.inner.Judging.{inner_size}
use Rattle.ifs_solver.proofs.Chained.{inner_below}
use Rattle.ifs_solver.proofs.judging.+judge_wish.Goals as goal

pub judge_wish-judge_wish_after-wish-requires : goal.judge_wish-judge_wish_after-wish-requires
judge_wish-judge_wish_after-wish-requires t c =
    let below = inner_below c.args.statements.now c.loop-statement.statement-index c.statement-item.result c.loop-statement-test.true in
    let same = ap inner_size c.statement-item.is in
    (omega (arith, below, same), tt)
