-- The marks so far and those of the operands that are left make those of the chain.
use Rattle.std.proofs.Common.{◌≡◌, ◌++◌, drop}
use Rattle.std.specs.List.{flat_map}
use Rattle.ifs_lint.specs.inner.Marking.{kinds_in, next_kinds}
use Rattle.ifs_lint.proofs.marks.+operands.Given as goal

abbrev pub invariant-put_operands-loop-operand : goal.invariant-put_operands-loop-operand
invariant-put_operands-loop-operand l = kinds_in l.marks.items ++ flat_map next_kinds (drop l.operand-index l.operand-items) ≡ kinds_in l.initial.marks.items ++ flat_map next_kinds l.operand-items
