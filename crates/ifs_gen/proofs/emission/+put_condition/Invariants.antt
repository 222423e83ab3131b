-- The further operands so far are appended, each with its sign.
use Rattle.std.proofs.Common.{◌≡◌, ◌++◌, take}
use Rattle.std.specs.List.{flat_map}
use Rattle.ifs_gen.proofs.Chains.{joined}
use Rattle.ifs_gen.proofs.emission.+put_condition.Given as goal

abbrev pub invariant-loop-operand : goal.invariant-loop-operand
invariant-loop-operand l = l.code.items ≡ l.initial.code.items ++ flat_map (joined l.op) (take l.operand-index l.operand-items)
