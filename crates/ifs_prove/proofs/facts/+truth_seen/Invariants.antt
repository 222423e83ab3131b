-- The operands so far are joined.
use Rattle.std.proofs.Common.{◌≡◌, take, fold}
use Rattle.ifs_claims.specs.Moves.{seen}
use Rattle.ifs_prove.proofs.Chains.{true_next}
use Rattle.ifs_prove.proofs.facts.+truth_seen.Given as goal

abbrev pub invariant-loop-operand : goal.invariant-loop-operand
invariant-loop-operand l = l.is_true ≡ fold (true_next (seen l.step l.core.state.position.facts) l.deciding) l.initial.is_true (take l.operand-index l.operand-items)
