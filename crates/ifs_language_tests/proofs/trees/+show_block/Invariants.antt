use Rattle.std.proofs.Common.{ℕ, ◌<◌, drop}
use Rattle.std.specs.List.{AllByRecursion}
use Rattle.ifs_parse.specs.Trees.{block_size}
use Rattle.ifs_parse.specs.Views.{InnerBelow}
use Rattle.ifs_language_tests.proofs.trees.+show_block.Given as goal

abbrev pub invariant-loop-action : goal.invariant-loop-action
invariant-loop-action l = AllByRecursion (InnerBelow (block_size l.fn.block)) (drop l.action-index l.action-items)
