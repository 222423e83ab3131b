-- One statement after the other.
use Rattle.std.proofs.Common.{sym, ap, subst, arith}
use Rattle.ifs_parse.specs.Views.{block_of, statement_then}
use Rattle.ifs_parse.specs.Trees.{Done}
use Rattle.ifs_solver.specs.inner.Judging.{inner_size}
use Rattle.ifs_solver.proofs.Chained.{inner_below}
use Rattle.ifs_solver.specs.FactSets.{Within, fact_set_of}
use Rattle.ifs_claims.specs.inner.Reaching.{where_runs}
use Rattle.ifs_claims.specs.inner.Widening.{WidensAmong}
use Rattle.ifs_claims.proofs.Reached.{if_said, remains_start, remains_step, remains_end, back_again, still}
use Rattle.ifs_claims.proofs.commands.Reach.+statements.Goals as goal

pub statement-returns-in_ok-after-in-Run-clause-runs : goal.statement-returns-in_ok-after-in-Run-clause-runs
statement-returns-in_ok-after-in-Run-clause-runs t c =
    subst (λ s. WidensAmong (Within (fact_set_of c.args.self.now.set.now)) (where_runs c.args.self.now.context.items c.args.self.now.command (statement_then s Done)) c.args.before c.in_ok-after-in-Run.after) (sym c.in-Run.is) c.in_ok-after-in-Run.ensures.runs

pub statement-returns-in_ok-after-in-If-clause-runs : goal.statement-returns-in_ok-after-in-If-clause-runs
statement-returns-in_ok-after-in-If-clause-runs t c =
    if_said (Within (fact_set_of c.args.self.now.set.now)) c.args.self.now.context.items c.args.self.now.command c.args.statement.now _ c.in-If.inner c.statements.result.now c.args.before c.in_ok-after-in-If.after c.in-If.is
    c.statements.ensures.value c.in_ok-after-in-If.ensures.runs

pub statements-statement-requires : goal.statements-statement-requires
statements-statement-requires t c =
    let below = inner_below c.args.statements.now c.loop-statement.statement-index c.statement-item.result c.loop-statement-test.true in
    let same = ap inner_size c.statement-item.is in
    (omega (arith, below, same), tt)

pub statements-loop-statement-init : goal.statements-loop-statement-init
statements-loop-statement-init t c = record { remains = remains_start c.args.self.now c.args.statements.now c.args.before; back = still c.args.self.now }

pub statements-loop-statement-preserved : goal.statements-loop-statement-preserved
statements-loop-statement-preserved t c =
    record {
      remains =
          remains_step c.args.self.now c.loop-statement.self c.args.statements.now c.args.before c.loop-statement.statement-index c.statement-item.result c.loop-statement.extent c.in_ok-extent.extent
          c.loop-statement-test.true c.statement-item.is c.loop-statement.invariant.back c.loop-statement.invariant.remains c.in_ok-extent.ensures.runs;
      back = back_again c.args.self.now c.loop-statement.self c.statement.new.self c.loop-statement.invariant.back c.in_ok-extent.ensures.stays;
    }

pub statements-returns-clause-runs : goal.statements-returns-clause-runs
statements-returns-clause-runs t c =
    remains_end c.args.self.now c.args.statements.now c.args.before c.loop-statement.statement-index c.loop-statement.extent c.loop-statement-test.false c.loop-statement.invariant.remains

pub statements-returns-clause-stays : goal.statements-returns-clause-stays
statements-returns-clause-stays t c = c.loop-statement.invariant.back

pub under-returns-clause-runs : goal.under-returns-clause-runs
under-returns-clause-runs t c =
    subst (λ xs. WidensAmong (Within (fact_set_of c.args.self.now.set.now)) (where_runs xs c.args.self.now.command (block_of c.args.statements.now)) c.args.before c.in_ok-after.after) c.in_ok-push.ensures.items c.in_ok-after.ensures.runs
