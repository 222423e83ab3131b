-- The places so far and those of the operands that are left make those of the chain.
use Rattle.std.proofs.Common.{◌≡◌, ◌++◌, drop}
use Rattle.std.specs.List.{flat_map}
use Rattle.ifs_lint.specs.inner.Marking.{next_kinds}
use Rattle.ifs_lint.proofs.reasons.Walk.+operands.Given as goal

abbrev pub invariant-operands-loop-operand : goal.invariant-operands-loop-operand
invariant-operands-loop-operand l = l.passed.items ++ flat_map next_kinds (drop l.operand-index l.operand-items) ≡ l.initial.passed.items ++ flat_map next_kinds l.operand-items
