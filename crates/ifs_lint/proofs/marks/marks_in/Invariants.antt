-- The marks so far and those of the items that are left make those of the policy.
use Rattle.std.proofs.Common.{◌≡◌, ◌++◌, drop}
use Rattle.std.specs.List.{flat_map}
use Rattle.ifs_lint.specs.inner.Marking.{kinds_in, state_kinds, tree_kinds}
use Rattle.ifs_lint.proofs.marks.marks_in.Given as goal

abbrev pub invariant-loop-item : goal.invariant-loop-item
invariant-loop-item l = kinds_in l.marks.items ++ flat_map state_kinds (drop l.item-index l.items) ≡ tree_kinds l.items
