-- The operands so far.
use Rattle.std.proofs.Common.{◌≡◌, take, fold}
use Rattle.ifs_policy.specs.Visits.{after_condition}
use Rattle.ifs_policy.proofs.visiting.+visit_condition.Given as goal

abbrev pub invariant-loop-operand : goal.invariant-loop-operand
invariant-loop-operand g l = l.visitor ≡ fold (after_condition g.V.SingleVisitor.after) l.initial.visitor (take l.operand-index l.operand-items)
