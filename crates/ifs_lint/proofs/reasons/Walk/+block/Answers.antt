-- A block is its statements.
use Rattle.std.proofs.Common.{ap, sym, ◌∙◌, ◌++◌}
use Rattle.ifs_lint.specs.inner.Marking.{block_kinds, statement_kinds}
use Rattle.ifs_lint.proofs.Marking.{block_is, none_left}
use Rattle.ifs_lint.proofs.reasons.Walk.+block.Goals as goal

pub block-returns : goal.block-returns
block-returns t c =
    let items = c.statements-statement-items.result.now in
    none_left statement_kinds c.loop-statement.passed.items _ items c.loop-statement.statement-index c.loop-statement-test.false c.loop-statement.invariant
    ∙ ap (λ xs. c.args.passed.now.items ++ xs) (sym (ap block_kinds c.statements-statement-items.ensures.value ∙ block_is items))
