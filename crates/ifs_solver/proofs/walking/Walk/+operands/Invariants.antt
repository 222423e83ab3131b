-- The walk is in the chain of the operands so far, after whatever operands it began with.
use Rattle.std.proofs.Common.{take}
use Rattle.ifs_parse.specs.Views.{joined_of}
use Rattle.ifs_policy.specs.Meaning.{Condition}
use Rattle.ifs_solver.specs.inner.Walking.{IsInChain, chain_places}
use Rattle.ifs_solver.proofs.Adding.{join}
use Rattle.ifs_solver.proofs.walking.Walk.+operands.Given as goal

abbrev pub invariant-operands-loop-operand : goal.invariant-operands-loop-operand
invariant-operands-loop-operand l =
    (before : Condition) → IsInChain l.deciding before (λ here later. chain_places l.deciding here before) l.fn.self l.initial.self
    → IsInChain l.deciding (joined_of (join l.deciding) before (take l.operand-index l.operand-items))
    (λ here later. chain_places l.deciding here (joined_of (join l.deciding) before (take l.operand-index l.operand-items))) l.fn.self l.self
