-- The statements so far are the same. Each call has a smaller block.
use Rattle.std.proofs.Common.{◌≡◌, ◌+◌, ◌*◌, take}
use Rattle.ifs_parse.specs.Trees.{block_size}
use Rattle.ifs_parse.specs.Views.{block_of}
use Rattle.ifs_solver.specs.inner.Judging.{inner_size}
use Rattle.ifs_compare.proofs.identity.+same_block.Given as goal

abbrev pub decreases-same_block : goal.decreases-same_block
decreases-same_block l = 3 * block_size l.one.now + 1

abbrev pub decreases-same_statements : goal.decreases-same_statements
decreases-same_statements l = 3 * block_size (block_of l.one.now)

abbrev pub decreases-same_statement : goal.decreases-same_statement
decreases-same_statement l = 3 * inner_size l.one.now + 2

abbrev pub invariant-same_statements-loop-index : goal.invariant-same_statements-loop-index
invariant-same_statements-loop-index l = take l.index l.one ≡ take l.index l.other
