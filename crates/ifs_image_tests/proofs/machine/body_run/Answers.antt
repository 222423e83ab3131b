-- An empty queue leaves room for the always body, which is a handler.
use Rattle.std.proofs.Common.{ap, ◌∙◌, inl, inr}
use Rattle.ifs_image_tests.proofs.machine.body_run.Goals as goal

pub run_handler-cost-requires-clause-room : goal.run_handler-cost-requires-clause-room
run_handler-cost-requires-clause-room c =
    let same = ap (λ h. h.body.0) c.always.ensures ∙ ap (λ p. p.always.body.0) c.image-image.ensures.value in
    rw c.new.ensures (c.empty_queue_has_room.ensures c.args.verified.now c.always.result.body.0 c.image-image.ensures.accepted (inl (inr same)))
