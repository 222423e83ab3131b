-- What the rest of the statements makes of the wish is what all make of none. Each call has a smaller block.
use Rattle.std.proofs.Common.{◌≡◌, ◌+◌, ◌*◌, drop}
use Rattle.ifs_parse.specs.Trees.{block_size}
use Rattle.ifs_parse.specs.Views.{block_of}
use Rattle.ifs_solver.specs.FactSets.{fact_set_of}
use Rattle.ifs_solver.specs.inner.Judging.{inner_size, judged_wish, no_wish}
use Rattle.ifs_solver.proofs.judging.+judge_wish.Given as goal

abbrev pub decreases-judge_wish : goal.decreases-judge_wish
decreases-judge_wish l = 2 * block_size (block_of l.statements.now)

abbrev pub decreases-judge_wish_after : goal.decreases-judge_wish_after
decreases-judge_wish_after l = 2 * inner_size l.statement.now + 1

abbrev pub invariant-judge_wish-loop-statement : goal.invariant-judge_wish-loop-statement
invariant-judge_wish-loop-statement l =
    judged_wish (fact_set_of l.set) l.aim l.wish (block_of (drop l.statement-index l.statements)) ≡ judged_wish (fact_set_of l.set) l.aim no_wish (block_of l.statements)
