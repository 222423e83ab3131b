-- The sum so far and that of the rest make the sum of all.
use Rattle.std.proofs.Common.{◌≡◌, ◌+◌, ◌-◌, ◌≤◌, ◌^◌, length}
use Rattle.std.specs.Prelude.{sum}
use Rattle.ifs_gen.specs.declared.amounts.Amount.TheVariants.{Size}
use Rattle.ifs_gen.specs.inner.Amounts.{numbers_of}
use Rattle.ifs_gen.specs.inner.Measures.{capped}
use Rattle.ifs_gen.proofs.amounts.total_size.Given as goal

abbrev pub invariant-loop-left : goal.invariant-loop-left
invariant-loop-left l = record {
  sum : capped (l.total + sum (numbers_of Size l.left)) ≡ capped (sum (numbers_of Size l.measures));
  low : l.total ≤ 2 ^ 64 - 1;
}

abbrev pub decreases-loop-left : goal.decreases-loop-left
decreases-loop-left l = length l.left
