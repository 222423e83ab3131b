-- One state.
use Rattle.ifs_solver.specs.FactSets.{fact_set_of, scope_of}
use Rattle.ifs_solver.specs.Asking.{guard_of}
use Rattle.ifs_claims.proofs.AskedFor.{asked_has}
use Rattle.ifs_claims.proofs.Entries.{itself_quiet, never_quiet, from_said}
use Rattle.ifs_claims.proofs.claims.ask_from.Goals as goal

pub ask_moving-requires : goal.ask_moving-requires
ask_moving-requires c = asked_has (scope_of c.args.reachable.now) c.in-Some.bodies.always.now c.in-Some.bodies.own.now (fact_set_of c.in-Some.bodies.set.now) c.in-Some.ensures.set

pub returns-then-state-next : goal.returns-then-state-next
returns-then-state-next c = itself_quiet c.args.reachable.now c.args.next (guard_of c.args.guard) c.args.state c.if-state-next.true

pub returns-then-is_never : goal.returns-then-is_never
returns-then-is_never c = never_quiet c.args.reachable.now c.args.next (guard_of c.args.guard) c.args.state c.if-is_never.ensures

pub returns : goal.returns
returns c =
    from_said c.args.reachable.now c.args.next (guard_of c.args.guard) c.args.state c.in-Some.bodies.always.now c.in-Some.bodies.own.now (fact_set_of c.in-Some.bodies.set.now) c.in_ok-extent.extent c.in-Some.ensures.there c.if-state-next.false
    c.in-Some.ensures.set c.in_ok-extent.ensures
