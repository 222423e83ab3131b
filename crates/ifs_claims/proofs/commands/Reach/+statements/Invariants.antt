-- What comes of the statements that are left comes of all.
use Rattle.std.proofs.Common.{◌+◌, ◌*◌, drop}
use Rattle.ifs_parse.specs.Trees.{block_size}
use Rattle.ifs_parse.specs.Views.{block_of}
use Rattle.ifs_solver.specs.inner.Judging.{inner_size}
use Rattle.ifs_solver.specs.FactSets.{Within, fact_set_of}
use Rattle.ifs_claims.specs.inner.Reaching.{IsBack}
use Rattle.ifs_claims.proofs.Reached.{Remains}
use Rattle.ifs_claims.proofs.commands.Reach.+statements.Given as goal

abbrev pub decreases-statements : goal.decreases-statements
decreases-statements l = 3 * block_size (block_of l.statements.now)

abbrev pub decreases-under : goal.decreases-under
decreases-under l = 3 * block_size (block_of l.statements.now) + 1

abbrev pub decreases-statement : goal.decreases-statement
decreases-statement l = 3 * inner_size l.statement.now + 2

abbrev pub invariant-statements-loop-statement : goal.invariant-statements-loop-statement
invariant-statements-loop-statement l = record {
  remains : Remains (Within (fact_set_of l.fn.self.set.now)) l.fn.self.context.items l.fn.self.command l.statements l.fn.before (drop l.statement-index l.statements) l.extent;
  back : IsBack l.fn.self l.self;
}
