-- A jump over a block leads to its end, and the code of a block is that of its statements.
use Rattle.std.proofs.Common.{◌≡◌, ◌∙◌, length, refl, rules, arith}
use Rattle.ifs_base.specs.declared.op.Op.TheVariants.{JumpFalse}
use Rattle.ifs_gen.specs.PlainCode.{plain_coder}
use Rattle.ifs_gen.specs.Sharing.{shared_coder}
use Rattle.ifs_gen.proofs.Called.{coder_sized}
use Rattle.ifs_gen.proofs.Chains.{if_room, if_fits, if_code, loop_room, loop_next, item_within, inner_within}
use Rattle.ifs_gen.proofs.emission.+put_block.Goals as goal

pub put_block-put_statement-requires : goal.put_block-put_statement-requires
put_block-put_statement-requires t c =
    let room = loop_room (shared_coder c.args.shared.now) (coder_sized c.args.shared.now) c.args.code.now.items c.loop-statement.code.items c.args.block.now c.statements-statement-items.result.now c.loop-statement.statement-index c.statement-item.result
    c.statements-statement-items.ensures.value c.loop-statement-test.true c.statement-item.is c.loop-statement.invariant c.requires.room in
    let smaller = item_within plain_coder c.args.block.now c.statements-statement-items.result.now c.loop-statement.statement-index c.statement-item.result
    c.statements-statement-items.ensures.value c.loop-statement-test.true c.statement-item.is in
    (omega (arith, smaller), (c.requires.few, room))

pub put_block-loop-statement-preserved : goal.put_block-loop-statement-preserved
put_block-loop-statement-preserved t c =
    loop_next (shared_coder c.args.shared.now) (coder_sized c.args.shared.now) c.args.code.now.items c.loop-statement.code.items c.put_statement.new.code.items c.statements-statement-items.result.now c.loop-statement.statement-index c.statement-item.result
    c.loop-statement-test.true c.statement-item.is c.loop-statement.invariant c.in_ok-put_statement.ensures

pub put_statement-put_block-requires : goal.put_statement-put_block-requires
put_statement-put_block-requires t c =
    let room = if_room (shared_coder c.args.shared.now) (coder_sized c.args.shared.now) c.args.code.now.items c.put_test.new.code.items c.push-in-If.new.self.items c.args.statement.now c.in-If.condition c.in-If.inner (JumpFalse 0)
    c.in-If.is c.in_ok-put_test-in-If.ensures c.in_ok-push-in-If.ensures.items c.requires.room in
    let smaller = inner_within plain_coder c.args.statement.now c.in-If.condition c.in-If.inner c.in-If.is in
    (omega (arith, smaller), (c.requires.few, room))

pub put_statement-set_jump-requires-clause-room : goal.put_statement-set_jump-requires-clause-room
put_statement-set_jump-requires-clause-room t c =
    if_fits (shared_coder c.args.shared.now) (coder_sized c.args.shared.now) c.push-in-If.new.self.items c.put_block.new.code.items c.in-If.inner (length c.put_block.new.code.items) c.in_ok-put_block-in-If.ensures refl
    (if_room (shared_coder c.args.shared.now) (coder_sized c.args.shared.now) c.args.code.now.items c.put_test.new.code.items c.push-in-If.new.self.items c.args.statement.now c.in-If.condition c.in-If.inner (JumpFalse 0)
    c.in-If.is c.in_ok-put_test-in-If.ensures c.in_ok-push-in-If.ensures.items c.requires.room)

pub put_statement-returns-in_ok-put_block-in-If : goal.put_statement-returns-in_ok-put_block-in-If
put_statement-returns-in_ok-put_block-in-If t c =
    let jump : c.len-jump.result ≡ length c.put_test.new.code.items = search rules in
    c.set_jump.ensures ∙ if_code (shared_coder c.args.shared.now) (coder_sized c.args.shared.now) c.args.code.now.items c.put_test.new.code.items c.push-in-If.new.self.items c.put_block.new.code.items c.args.statement.now c.in-If.condition c.in-If.inner c.len-jump.result
    (length c.put_block.new.code.items) c.in-If.is c.in_ok-put_test-in-If.ensures jump c.in_ok-push-in-If.ensures.items c.in_ok-put_block-in-If.ensures refl
