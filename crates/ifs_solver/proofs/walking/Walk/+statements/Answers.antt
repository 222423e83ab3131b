-- Statements one after the other.
use Rattle.std.proofs.Common.{sym, subst, length, take, drop, ◌-◌}
use Rattle.ifs_parse.specs.Trees.{block_size}
use Rattle.ifs_parse.specs.Views.{block_of}
use Rattle.ifs_solver.specs.inner.Walking.{Walked, statement_places, others_of}
use Rattle.ifs_solver.specs.Places.{block_places}
use Rattle.ifs_solver.proofs.Blocks.{if_walked, remains_more, remains_nothing, rest_below, front_is, none_left}
use Rattle.ifs_solver.proofs.walking.Walk.+statements.Goals as goal

pub statement-returns-in_ok-command-in-Run : goal.statement-returns-in_ok-command-in-Run
statement-returns-in_ok-command-in-Run t c =
    subst (λ s. Walked (λ here later. statement_places here later (others_of c.args.self.now.others) s (block_of c.args.rest.now)) c.args.self.now c.command.new.self) (sym c.in-Run.is) c.in_ok-command-in-Run.ensures

pub statement-returns-in_ok-statements-in-If : goal.statement-returns-in_ok-statements-in-If
statement-returns-in_ok-statements-in-If t c =
    if_walked c.args.statement.now _ c.args.rest c.in-If.inner c.args.self.now c.test.new.self c.operands.new.self c.enter.new.self c.statements-in-If.new.self c.come_back.new.self c.in-If.is
    c.in_ok-test-in-If.ensures c.in_ok-operands-in-If.ensures c.in_ok-enter-in-If.ensures
    (subst (λ x. Walked (λ here later. block_places here later (others_of c.enter.new.self.others) x) c.enter.new.self c.statements-in-If.new.self) (sym c.statements.ensures.value) c.in_ok-statements-in-If.ensures)
    c.come_back.ensures

pub statements-loop-left-preserved : goal.statements-loop-left-preserved
statements-loop-left-preserved t c =
    let left = c.loop-left.left.now in
    let front = front_is left c.statement-item.result c.in-len1-up.len_at_least c.statement-item.is in
    record {
      smaller = rest_below left c.statement-item.result (take (length left - 1) (drop 1 left)) (block_size (block_of c.args.statements.now)) front c.loop-left.invariant.smaller;
      remains = remains_more c.args.statements.now c.args.self.now c.statement-item.result (take (length left - 1) (drop 1 left)) left c.loop-left.self c.statement.new.self front c.loop-left.invariant.remains c.in_ok-statement.ensures;
    }

pub statements-returns : goal.statements-returns
statements-returns t c =
    remains_nothing c.args.statements.now c.loop-left.left.now c.args.self.now c.loop-left.self (none_left c.loop-left.left.now c.in_default.len_below) c.loop-left.invariant.remains
