-- One state.
use Rattle.ifs_solver.specs.FactSets.{fact_set_of}
use Rattle.ifs_solver.specs.Asking.{guard_of}
use Rattle.ifs_claims.proofs.Quiet.{init_from, init_itself, init_never}
use Rattle.ifs_claims.proofs.running.ask_init_from.Goals as goal

pub returns-then-previous-state : goal.returns-then-previous-state
returns-then-previous-state c = init_itself c.args.ban.reachable.now c.args.ban.command (guard_of c.args.ban.guard) c.args.state c.args.previous c.if-previous-state.true

pub returns-then-is_never : goal.returns-then-is_never
returns-then-is_never c = init_never c.args.ban.reachable.now c.args.ban.command (guard_of c.args.ban.guard) c.args.state c.args.previous c.if-is_never.ensures

pub returns : goal.returns
returns c =
    init_from c.active_are_mentioned.ensures c.args.ban.reachable.now c.args.ban.command (guard_of c.args.ban.guard) c.args.state c.args.previous c.args.init.now c.requires c.in-Some.bodies.always.now c.in-Some.bodies.own.now c.in-Some.ensures.there
    c.if-previous-state.false (fact_set_of c.in-Some.bodies.set.now) c.in_ok-extent.extent c.in-Some.ensures.set c.in_ok-extent.ensures
