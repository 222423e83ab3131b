use Rattle.std.proofs.Common.{length, ap, refl}
use Rattle.ifs_base.specs.Effects.{Effects}
use Rattle.ifs_machine.specs.Views.{facts_of, effects_of}
use Rattle.ifs_core.specs.Event.{AlwaysBody, Body}
use Rattle.ifs_core.proofs.Runs.{two_runs, ran_bodies, body_of, room_for_always_body, room_for_body}
use Rattle.ifs_core.proofs.event.run_bodies.Goals as goal

pub run_handler-always-requires-clause-room : goal.run_handler-always-requires-clause-room
run_handler-always-requires-clause-room c =
    let e = c.always_of-part.ensures in
    let own = c.handlers_of-own.ensures in
    rw e (room_for_always_body c.args.verified.now c.args.position.now.current.0 own.0 (length c.args.effects.now.queued.items)
    c.image.ensures.accepted own.1 (ap (λ (f : Effects). length f.commands) c.requires.first))

pub run_handler-body-requires-clause-room : goal.run_handler-body-requires-clause-room
run_handler-body-requires-clause-room c =
    let e = c.always_of-part.ensures in
    let own = c.handlers_of-own.ensures in
    rw (← own.2) (room_for_body c.args.verified.now c.args.position.now.current.0 own.0 c.args.effects.now.queued.items c.run_handler-always.new.effects.queued.items
    c.image.ensures.accepted own.1 (ap (λ (f : Effects). length f.commands) c.requires.first) (rw e at c.run_handler-always.ensures.commands))

pub returns-clause-exact : goal.returns-clause-exact
returns-clause-exact c = λ b is.
    let e = c.always_of-part.ensures in
    let own = c.handlers_of-own.ensures in
    let image = c.args.verified.now in
    let none = ap (λ (f : Effects). length f.commands) c.requires.first in
    two_runs image b AlwaysBody (Body c.args.position.now.current.0) (facts_of c.args.position.now.facts) image.always.body.0 own.0.handlers.body.0
    (effects_of c.args.effects.now) (effects_of c.run_handler-always.new.effects) (effects_of c.run_handler-body.new.effects) c.run_handler-always.result c.run_handler-body.result
    is refl (body_of image c.args.position.now.current.0 own.0 own.1) c.requires.position.facts
    (room_for_always_body image c.args.position.now.current.0 own.0 (length c.args.effects.now.queued.items) c.image.ensures.accepted own.1 none)
    (room_for_body image c.args.position.now.current.0 own.0 c.args.effects.now.queued.items c.run_handler-always.new.effects.queued.items c.image.ensures.accepted own.1 none (rw e at c.run_handler-always.ensures.commands))
    (rw e at c.run_handler-always.ensures.only) (rw (← own.2) at c.run_handler-body.ensures.only) c.requires.first

pub returns-clause-within : goal.returns-clause-within
returns-clause-within c =
    let e = c.always_of-part.ensures in
    let own = c.handlers_of-own.ensures in
    ran_bodies c.args.verified.now c.args.position.now.current.0 own.0
    (effects_of c.args.effects.now) (effects_of c.run_handler-always.new.effects) (effects_of c.run_handler-body.new.effects) c.run_handler-always.result c.run_handler-body.result
    own.1 c.requires.first (rw e at c.run_handler-always.ensures.within) (rw (← own.2) at c.run_handler-body.ensures.within)
    (rw e at c.run_handler-always.ensures.commands) (rw (← own.2) at c.run_handler-body.ensures.commands) c.run_handler-always.ensures.wish c.run_handler-body.ensures.wish
