use Rattle.std.proofs.Common.{ℕ, ◌<◌, drop}
use Rattle.std.specs.List.{AllByRecursion}
use Rattle.ifs_parse.specs.Trees.{condition_size}
use Rattle.ifs_language_tests.proofs.trees.+show_condition.Given as goal

abbrev pub invariant-loop-next : goal.invariant-loop-next
invariant-loop-next l = AllByRecursion (λ c. condition_size c < condition_size l.fn.c) (drop l.next-index l.next-items)
