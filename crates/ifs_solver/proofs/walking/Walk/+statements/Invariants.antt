-- The walk over the statements that are left makes that over all.
use Rattle.std.proofs.Common.{◌+◌, ◌*◌, ◌≤◌, length}
use Rattle.ifs_parse.specs.Trees.{block_size}
use Rattle.ifs_parse.specs.Views.{block_of}
use Rattle.ifs_solver.specs.inner.Judging.{inner_size}
use Rattle.ifs_solver.proofs.Blocks.{Remains}
use Rattle.ifs_solver.proofs.walking.Walk.+statements.Given as goal

abbrev pub decreases-statements : goal.decreases-statements
decreases-statements l = 2 * block_size (block_of l.statements.now)

abbrev pub decreases-statement : goal.decreases-statement
decreases-statement l = 2 * inner_size l.statement.now + 1

abbrev pub invariant-statements-loop-left : goal.invariant-statements-loop-left
invariant-statements-loop-left l = record {
  smaller : block_size (block_of l.left) ≤ block_size (block_of l.statements);
  remains : Remains l.statements l.fn.self l.left l.self;
}

abbrev pub decreases-statements-loop-left : goal.decreases-statements-loop-left
decreases-statements-loop-left l = length l.left
