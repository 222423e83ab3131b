-- The opening is one of the initial state.
use Rattle.std.proofs.Common.{◌∙◌, ap}
use Rattle.ifs_solver.specs.FactSets.{Within, fact_set_of, scope_of}
use Rattle.ifs_solver.specs.Asking.{guard_of}
use Rattle.ifs_claims.specs.inner.Opening.{opening_fact_set}
use Rattle.ifs_claims.proofs.Truths.{at_openings_said, elsewhere_at_openings, met_asked}
use Rattle.ifs_claims.proofs.Valueless.{opening_has}
use Rattle.ifs_claims.proofs.claims.ask_at_openings.Goals as goal

pub ask_in-requires : goal.ask_in-requires
ask_in-requires c = opening_has (scope_of c.args.reachable.now) (fact_set_of c.in_ok-set.set) (c.in_ok-set.ensures ∙ ap opening_fact_set c.scope.ensures)

pub returns-then-state-initial : goal.returns-then-state-initial
returns-then-state-initial c = elsewhere_at_openings c.args.reachable.now c.args.state c.initial-initial.result (guard_of c.args.guard) c.initial-initial.ensures c.if-state-initial.true

pub returns : goal.returns
returns c =
    at_openings_said c.args.reachable.now c.args.state c.initial-initial.result (guard_of c.args.guard) (fact_set_of c.in_ok-set.set) c.in_ok-extent.extent c.initial-initial.ensures c.if-state-initial.false (c.in_ok-set.ensures ∙ ap opening_fact_set c.scope.ensures)
    (met_asked (Within (fact_set_of c.in_ok-set.set)) c.args.guard c.in_ok-extent.extent c.in_ok-extent.ensures.extent)
