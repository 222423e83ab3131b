use Rattle.std.proofs.Common.{List, None, length, ap, refl}
use Rattle.ifs_base.specs.declared.ids.CommandId.{CommandId}
use Rattle.ifs_base.specs.declared.ids.StateId.{StateId}
use Rattle.ifs_base.specs.Effects.{Effects}
use Rattle.ifs_machine.specs.Views.{facts_of, effects_of}
use Rattle.ifs_core.specs.Event.{AlwaysInit, Init}
use Rattle.ifs_core.proofs.Runs.{two_runs, init_of, room_for_always_init, room_for_first_init, two_known}
use Rattle.ifs_core.proofs.event.run_inits.Goals as goal

pub run_handler-always-requires-clause-room : goal.run_handler-always-requires-clause-room
run_handler-always-requires-clause-room c =
    let e = c.always_of-part.ensures in
    let own = c.handlers_of-own.ensures in
    rw e (room_for_always_init c.args.verified.now c.args.position.now.current.0 own.0 (length c.new.result.items)
    c.image.ensures.accepted (ap (λ (s : StateId). s.0) c.requires.initial) own.1 (ap length c.new.ensures))

pub run_handler-own-requires-clause-room : goal.run_handler-own-requires-clause-room
run_handler-own-requires-clause-room c =
    let e = c.always_of-part.ensures in
    let own = c.handlers_of-own.ensures in
    rw (← own.2) (room_for_first_init c.args.verified.now c.args.position.now.current.0 own.0 c.new.result.items c.run_handler-always.new.effects.queued.items
    c.image.ensures.accepted (ap (λ (s : StateId). s.0) c.requires.initial) own.1 (ap length c.new.ensures) (rw e at c.run_handler-always.ensures.commands))

pub returns-clause-exact : goal.returns-clause-exact
returns-clause-exact c = λ b is.
    let e = c.always_of-part.ensures in
    let own = c.handlers_of-own.ensures in
    let image = c.args.verified.now in
    let k = c.args.position.now.current.0 in
    let first = ap (λ (s : StateId). s.0) c.requires.initial in
    let none = ap length c.new.ensures in
    let before = effects_of (record { queued = c.new.result; want = None }) in
    let both = two_runs image b AlwaysInit (Init k) (facts_of c.args.position.now.facts) image.always.init.0 own.0.handlers.init.0
    before (effects_of c.run_handler-always.new.effects) (effects_of c.run_handler-own.new.effects) c.run_handler-always.result c.run_handler-own.result
    is refl (init_of image k own.0 own.1) c.requires.position.facts
    (room_for_always_init image k own.0 (length c.new.result.items) c.image.ensures.accepted first own.1 none)
    (room_for_first_init image k own.0 c.new.result.items c.run_handler-always.new.effects.queued.items c.image.ensures.accepted first own.1 none (rw e at c.run_handler-always.ensures.commands))
    (rw e at c.run_handler-always.ensures.only) (rw (← own.2) at c.run_handler-own.ensures.only)
    (ap (λ (xs : List CommandId). record { commands = xs; wish = None }) c.new.ensures) in
    ap (λ (f : Effects). f.commands) both.0

pub returns-clause-known : goal.returns-clause-known
returns-clause-known c =
    let e = c.always_of-part.ensures in
    let own = c.handlers_of-own.ensures in
    two_known c.args.verified.now c.args.verified.now.always.init.0 own.0.handlers.init.0 c.new.result.items c.run_handler-always.new.effects.queued.items c.run_handler-own.new.effects.queued.items
    c.new.ensures (rw e at c.run_handler-always.ensures.commands) (rw (← own.2) at c.run_handler-own.ensures.commands)
