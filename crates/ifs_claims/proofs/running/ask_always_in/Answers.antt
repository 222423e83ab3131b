-- The always body in the state.
use Rattle.ifs_solver.specs.FactSets.{fact_set_of}
use Rattle.ifs_solver.specs.Asking.{guard_of}
use Rattle.ifs_claims.proofs.Quiet.{always_never, always_there}
use Rattle.ifs_claims.proofs.running.ask_always_in.Goals as goal

pub returns-then-is_never : goal.returns-then-is_never
returns-then-is_never c = always_never c.args.ban.reachable.now c.args.ban.command (guard_of c.args.ban.guard) c.args.state c.if-is_never.ensures

pub returns : goal.returns
returns c =
    always_there c.args.ban.reachable.now c.args.ban.command (guard_of c.args.ban.guard) c.args.state c.in-Some.bodies.always.now c.in-Some.bodies.own.now (fact_set_of c.in-Some.bodies.set.now) c.in_ok-extent.extent c.in-Some.ensures.there
    c.in-Some.ensures.set c.in_ok-extent.ensures
