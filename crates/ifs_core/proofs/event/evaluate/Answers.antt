use Rattle.std.proofs.Common.{arith}
use Rattle.ifs_machine.specs.Views.{effects_of}
use Rattle.ifs_core.proofs.Runs.{room_for_init, bodies_keep, change_keeps}
use Rattle.ifs_core.proofs.event.evaluate.Goals as goal

pub run_init-init-requires-clause-room : goal.run_init-init-requires-clause-room
run_init-init-requires-clause-room c = λ state at.
    room_for_init c.args.verified.now c.args.position.now.current.0 c.enter.new.position.current.0 state (effects_of c.run_bodies-cost.new.effects) c.run_bodies-cost.result
    c.run_bodies-cost.ensures.accepted c.run_bodies-cost.ensures.within at

pub overflow_add-result : goal.overflow_add-result
overflow_add-result c =
    let kept = change_keeps c.args.verified.now c.args.position.now.current.0 c.enter.new.position.current.0 (effects_of c.run_bodies-cost.new.effects) (effects_of c.run_init-init.new.effects)
    c.run_bodies-cost.result c.run_init-init.result c.run_bodies-cost.ensures.accepted c.run_bodies-cost.ensures.within c.run_init-init.ensures.within in
    omega (arith, kept.cost, c.run_bodies-cost.ensures.limit)

pub returns-in-None-clause-budgets : goal.returns-in-None-clause-budgets
returns-in-None-clause-budgets c =
    bodies_keep c.args.verified.now c.args.position.now.current.0 (effects_of c.run_bodies-cost.new.effects) c.run_bodies-cost.result c.run_bodies-cost.ensures.accepted c.run_bodies-cost.ensures.within

pub returns-in-Some-clause-budgets : goal.returns-in-Some-clause-budgets
returns-in-Some-clause-budgets c =
    change_keeps c.args.verified.now c.args.position.now.current.0 c.enter.new.position.current.0 (effects_of c.run_bodies-cost.new.effects) (effects_of c.run_init-init.new.effects)
    c.run_bodies-cost.result c.run_init-init.result c.run_bodies-cost.ensures.accepted c.run_bodies-cost.ensures.within c.run_init-init.ensures.within
