-- One statement after the other.
use Rattle.std.proofs.Common.{sym, ap, ◌∙◌, arith}
use Rattle.ifs_solver.specs.FactSets.{fact_set_of}
use Rattle.ifs_solver.specs.inner.Judging.{inner_size}
use Rattle.ifs_solver.proofs.Chained.{inner_below}
use Rattle.ifs_solver.specs.Reaching.{effects_of}
use Rattle.ifs_solver.proofs.Effecting.{true_reached, false_reached, open_condition}
use Rattle.ifs_solver.proofs.reaching.+reach.Goals as goal

pub reach_if-returns-in_ok-pending-in-Known-true : goal.reach_if-returns-in_ok-pending-in-Known-true
reach_if-returns-in_ok-pending-in-Known-true t c =
    true_reached (fact_set_of c.args.set.now) c.args.condition.now c.args.inner.now (effects_of c.args.reached.now) (effects_of c.reach.new.reached) c.in_ok-pending-in-Known-true.pending (cc)
    c.in_ok-pending-in-Known-true.ensures

pub reach_if-returns-in-Known-false : goal.reach_if-returns-in-Known-false
reach_if-returns-in-Known-false t c = false_reached (fact_set_of c.args.set.now) c.args.condition.now c.args.inner.now (effects_of c.args.reached.now) cc

pub reach_if-returns-in-Open : goal.reach_if-returns-in-Open
reach_if-returns-in-Open t c = open_condition (fact_set_of c.args.set.now) c.args.condition.now c.in-Open.branch (sym c.judge.ensures ∙ c.in-Open.is)

pub reach_statements-reach_after-requires : goal.reach_statements-reach_after-requires
reach_statements-reach_after-requires t c =
    let below = inner_below c.args.statements.now c.loop-statement.statement-index c.statement-item.result c.loop-statement-test.true in
    let same = ap inner_size c.statement-item.is in
    (omega (arith, below, same), tt)
