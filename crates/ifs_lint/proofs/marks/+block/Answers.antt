-- A block is its statements.
use Rattle.std.proofs.Common.{ap, sym, ◌∙◌, ◌++◌}
use Rattle.ifs_lint.specs.inner.Marking.{block_kinds, kinds_in, statement_kinds}
use Rattle.ifs_lint.proofs.Marking.{block_is, none_left}
use Rattle.ifs_lint.proofs.marks.+block.Goals as goal

pub put_block-returns : goal.put_block-returns
put_block-returns t c =
    let items = c.statements-statement-items.result.now in
    none_left statement_kinds (kinds_in c.loop-statement.marks.items) _ items c.loop-statement.statement-index c.loop-statement-test.false c.loop-statement.invariant
    ∙ ap (λ xs. kinds_in c.args.marks.now.items ++ xs) (sym (ap block_kinds c.statements-statement-items.ensures.value ∙ block_is items))
