-- The marks so far and those of the items that are left make those of all.
use Rattle.std.proofs.Common.{◌≡◌, ◌++◌, drop}
use Rattle.std.specs.List.{flat_map}
use Rattle.ifs_lint.specs.inner.Marking.{kinds_in, always_kinds}
use Rattle.ifs_lint.proofs.marks.put_always_body.Given as goal

abbrev pub invariant-loop-item : goal.invariant-loop-item
invariant-loop-item l = kinds_in l.marks.items ++ flat_map always_kinds (drop l.item-index l.items) ≡ kinds_in l.initial.marks.items ++ flat_map always_kinds l.items
