-- What the facts of one evaluation say of all steps.
use Rattle.ifs_solver.specs.FactSets.{fact_set_of, scope_of}
use Rattle.ifs_solver.specs.Asking.{guard_of}
use Rattle.ifs_claims.proofs.AskedFor.{asked_has, values_are_asked}
use Rattle.ifs_claims.proofs.Staying.{rest_never, rest_told}
use Rattle.ifs_claims.proofs.claims.never_rests.Goals as goal

pub ask_resting-requires : goal.ask_resting-requires
ask_resting-requires c = asked_has (scope_of c.args.reachable.now) c.in-Some.bodies.always.now c.in-Some.bodies.own.now (fact_set_of c.in-Some.bodies.set.now) c.in-Some.ensures.set

pub returns-then-is_never-clause-told : goal.returns-then-is_never-clause-told
returns-then-is_never-clause-told c = rest_never c.args.reachable.now c.args.state (guard_of c.args.guard) c.if-is_never.ensures

pub returns-clause-told : goal.returns-clause-told
returns-clause-told c =
    rest_told (values_are_asked c.active_are_mentioned.ensures) c.args.reachable.now c.args.state (guard_of c.args.guard) c.in-Some.bodies.always.now c.in-Some.bodies.own.now (fact_set_of c.in-Some.bodies.set.now) c.in_ok-extent.extent c.within.result
    c.in-Some.ensures.there c.in-Some.ensures.set c.in_ok-extent.ensures c.within.ensures.told
