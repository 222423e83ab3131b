-- The marks so far and those of the parts that are left make those of all.
use Rattle.std.proofs.Common.{◌≡◌, ◌++◌, drop}
use Rattle.std.specs.List.{flat_map}
use Rattle.ifs_lint.specs.inner.Marking.{kinds_in, body_kinds}
use Rattle.ifs_lint.proofs.marks.put_body.Given as goal

abbrev pub invariant-loop-part : goal.invariant-loop-part
invariant-loop-part l = kinds_in l.marks.items ++ flat_map body_kinds (drop l.part-index l.parts) ≡ kinds_in l.initial.marks.items ++ flat_map body_kinds l.parts
