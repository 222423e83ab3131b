-- The bodies of the state.
use Rattle.ifs_solver.specs.FactSets.{fact_set_of, scope_of}
use Rattle.ifs_solver.specs.Asking.{guard_of}
use Rattle.ifs_claims.proofs.AskedFor.{asked_has, values_are_asked}
use Rattle.ifs_claims.proofs.Elsewhere.{never_settled, settling_said}
use Rattle.ifs_claims.proofs.claims.ask_settling.Goals as goal

pub ask_settled-requires : goal.ask_settled-requires
ask_settled-requires c = asked_has (scope_of c.args.reachable.now) c.in-Some.bodies.always.now c.in-Some.bodies.own.now (fact_set_of c.in-Some.bodies.set.now) c.in-Some.ensures.set

pub returns-then-is_never : goal.returns-then-is_never
returns-then-is_never c = never_settled c.args.reachable.now c.args.state (guard_of c.args.guard) c.if-is_never.ensures

pub returns : goal.returns
returns c =
    settling_said c.held_by_an_open_test.ensures.exactly (values_are_asked c.active_are_mentioned.ensures) c.args.reachable.now (guard_of c.args.guard) c.args.state c.in-Some.bodies.always.now c.in-Some.bodies.own.now (fact_set_of c.in-Some.bodies.set.now)
    c.in_ok-extent.extent c.in-Some.ensures.there c.in-Some.ensures.set c.in_ok-extent.ensures
