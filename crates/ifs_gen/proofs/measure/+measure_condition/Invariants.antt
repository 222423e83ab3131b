-- The measures so far are those of the chain so far, for any start.
use Rattle.std.proofs.Common.{◌≡◌, ℕ, take}
use Rattle.ifs_gen.specs.inner.Measures.{capped}
use Rattle.ifs_gen.proofs.Measuring.{chain_size, chain_height}
use Rattle.ifs_gen.proofs.measure.+measure_condition.Given as goal

abbrev pub invariant-loop-operand : goal.invariant-loop-operand
invariant-loop-operand l = record {
  size : (n : ℕ) → l.initial.measure.size ≡ capped n → l.measure.size ≡ capped (chain_size n (take l.operand-index l.operand-items));
  height : (n : ℕ) → l.initial.measure.height ≡ capped n → l.measure.height ≡ capped (chain_height n (take l.operand-index l.operand-items));
}
