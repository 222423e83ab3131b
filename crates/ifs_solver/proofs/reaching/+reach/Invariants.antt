-- What the statements that are left reach comes after what is reached so far.
use Rattle.std.proofs.Common.{◌+◌, ◌*◌, drop}
use Rattle.ifs_parse.specs.Trees.{block_size}
use Rattle.ifs_parse.specs.Views.{block_of}
use Rattle.ifs_solver.specs.FactSets.{fact_set_of}
use Rattle.ifs_solver.specs.inner.Judging.{inner_size}
use Rattle.ifs_solver.specs.Reaching.{effects_of}
use Rattle.ifs_solver.proofs.Effecting.{Remains}
use Rattle.ifs_solver.proofs.reaching.+reach.Given as goal

abbrev pub decreases-reach_statements : goal.decreases-reach_statements
decreases-reach_statements l = 5 * block_size (block_of l.statements.now)

abbrev pub decreases-reach : goal.decreases-reach
decreases-reach l = 5 * block_size l.block.now + 1

abbrev pub decreases-reach_if : goal.decreases-reach_if
decreases-reach_if l = 5 * block_size l.inner.now + 2

abbrev pub decreases-reach_statement : goal.decreases-reach_statement
decreases-reach_statement l = 5 * inner_size l.statement.now + 3

abbrev pub decreases-reach_after : goal.decreases-reach_after
decreases-reach_after l = 5 * inner_size l.statement.now + 4

abbrev pub invariant-reach_statements-loop-statement : goal.invariant-reach_statements-loop-statement
invariant-reach_statements-loop-statement l =
    Remains (fact_set_of l.set) l.statements (effects_of l.fn.reached) (drop l.statement-index l.statements) (effects_of l.reached) l.pending
