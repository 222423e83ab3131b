-- Of a test without a value it is left to openings and arrivals.
use Rattle.std.proofs.Common.{ap}
use Rattle.ifs_solver.specs.FactSets.{fact_set_of, scope_of}
use Rattle.ifs_solver.specs.Asking.{guard_of}
use Rattle.ifs_claims.proofs.AskedFor.{asked_has}
use Rattle.ifs_claims.proofs.Truths.{staying_said, unknown_staying}
use Rattle.ifs_claims.proofs.claims.ask_staying.Goals as goal

pub ask_resting-requires : goal.ask_resting-requires
ask_resting-requires c = asked_has (scope_of c.args.reachable.now) c.in-Some.bodies.always.now c.in-Some.bodies.own.now (fact_set_of c.in-Some.bodies.set.now) c.in-Some.ensures.set

pub returns-in-Unknown : goal.returns-in-Unknown
returns-in-Unknown c = unknown_staying c.active_are_mentioned.ensures c.args.reachable.now c.args.state (guard_of c.args.guard) _ (ap guard_of c.in-Unknown.is)

pub returns : goal.returns
returns c =
    staying_said c.active_are_mentioned.ensures c.args.reachable.now c.args.state (guard_of c.args.guard) c.in-Some.bodies.always.now c.in-Some.bodies.own.now (fact_set_of c.in-Some.bodies.set.now) c.in_ok-resting.resting
    c.in-Some.ensures.there c.in-Some.ensures.set c.in_ok-resting.ensures
