-- One more test, room for the statements, and the whole code.
use Rattle.std.proofs.Common.{◌∙◌, arith, refl}
use Rattle.ifs_gen.specs.PolicyImage.{routine_leaving}
use Rattle.ifs_gen.specs.Sharing.{shared_coder}
use Rattle.ifs_gen.proofs.Called.{coder_sized}
use Rattle.ifs_gen.proofs.Chains.{held_next, held_room, body_ends, body_is, get_or_same}
use Rattle.ifs_gen.proofs.routines.body_routine.Goals as goal

pub loop-test-preserved : goal.loop-test-preserved
loop-test-preserved c =
    held_next 0 c.loop-test.code.items c.push.new.self.items c.push-in-loop-test.new.self.items c.args.tests.now c.loop-test.test-index _
    c.loop-test-test.true (get_or_same c.args.tests.now c.loop-test.test-index _ _ c.loop-test-test.true) c.loop-test.invariant c.in_ok-push.ensures.items c.in_ok-push-2.ensures.items

pub put_block-requires-clause-room : goal.put_block-requires-clause-room
put_block-requires-clause-room c =
    held_room (shared_coder c.args.shared.now) (coder_sized c.args.shared.now) c.loop-test.code.items c.args.tests.now c.loop-test.test-index c.args.body.now c.loop-test-test.false c.loop-test.invariant c.requires.room

pub set_held-requires : goal.set_held-requires
set_held-requires c =
    let long = body_ends (shared_coder c.args.shared.now) (coder_sized c.args.shared.now) c.loop-test.code.items c.put_block.new.code.items c.args.tests.now c.loop-test.test-index c.args.body.now
    c.loop-test-test.false c.loop-test.invariant c.in_ok-put_block.ensures in
    let room = c.requires.room in
    record { held = omega (arith, long); room = omega (arith, long, room) }

pub returns : goal.returns
returns c =
    let code = body_is (shared_coder c.args.shared.now) (coder_sized c.args.shared.now) c.loop-test.code.items c.put_block.new.code.items c.set_held.new.code.items
    c.push-2.new.self.items c.args.tests.now c.loop-test.test-index c.args.body.now c.loop-test-test.false c.loop-test.invariant c.in_ok-put_block.ensures
    (λ rest. c.set_held.ensures c.args.tests.now rest refl) c.in_ok-push-3.ensures.items in
    c.routine_leaving.ensures ∙ (λ i. routine_leaving (c.new.ensures i) (code i))
