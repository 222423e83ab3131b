-- One more statement, and the end of the block.
use Rattle.std.proofs.Common.{arith}
use Rattle.ifs_gen.specs.inner.Meetings.{statement_conditions}
use Rattle.ifs_gen.specs.PlainCode.{plain_coder}
use Rattle.ifs_gen.proofs.Chains.{item_within}
use Rattle.ifs_gen.proofs.Walking.{met_more, met_end}
use Rattle.ifs_gen.proofs.sharing.+meet_block.Goals as goal

pub meet_block-meet_statement-requires : goal.meet_block-meet_statement-requires
meet_block-meet_statement-requires t c =
    let smaller = item_within plain_coder c.args.block.now c.statements-statement-items.result.now c.loop-statement.statement-index c.statement-item.result
    c.statements-statement-items.ensures.value c.loop-statement-test.true c.statement-item.is in
    (omega (arith, smaller), tt)

pub meet_block-returns : goal.meet_block-returns
meet_block-returns t c =
    met_end c.args.met.now c.loop-statement.met c.args.block.now c.statements-statement-items.result.now c.loop-statement.statement-index
    c.statements-statement-items.ensures.value c.loop-statement-test.false c.loop-statement.invariant

pub meet_block-loop-statement-preserved : goal.meet_block-loop-statement-preserved
meet_block-loop-statement-preserved t c =
    met_more statement_conditions c.args.met.now c.loop-statement.met c.meet_statement.new.met c.statements-statement-items.result.now c.loop-statement.statement-index c.statement-item.result
    c.loop-statement-test.true c.statement-item.is c.loop-statement.invariant c.in_ok-meet_statement.ensures
