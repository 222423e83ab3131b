-- The operands so far are joined.
use Rattle.std.proofs.Common.{◌≡◌, take, fold}
use Rattle.ifs_solver.specs.FactSets.{fact_set_of}
use Rattle.ifs_solver.proofs.Chained.{judged_next}
use Rattle.ifs_solver.proofs.judging.+judge.Given as goal

abbrev pub invariant-loop-operand : goal.invariant-loop-operand
invariant-loop-operand l = l.verdict ≡ fold (judged_next (fact_set_of l.set) l.deciding) l.initial.verdict (take l.operand-index l.operand-items)
