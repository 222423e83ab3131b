-- The places so far and those of the parts that are left make those of all.
use Rattle.std.proofs.Common.{◌≡◌, ◌++◌, drop}
use Rattle.std.specs.List.{flat_map}
use Rattle.ifs_lint.specs.inner.Marking.{part_kinds}
use Rattle.ifs_lint.proofs.reasons.Walk.parts.Given as goal

abbrev pub invariant-loop-part : goal.invariant-loop-part
invariant-loop-part l = l.passed.items ++ flat_map part_kinds (drop l.part-index l.parts) ≡ l.initial.passed.items ++ flat_map part_kinds l.parts
