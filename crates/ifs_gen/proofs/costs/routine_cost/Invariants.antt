-- The cost so far and that of the rest make the cost of all.
use Rattle.std.proofs.Common.{◌≡◌, ◌+◌, ◌-◌, ◌≤◌, ◌^◌, length}
use Rattle.std.specs.Prelude.{sum_by}
use Rattle.ifs_gen.specs.inner.Costs.{op_cost}
use Rattle.ifs_gen.specs.inner.Measures.{capped}
use Rattle.ifs_gen.proofs.costs.routine_cost.Given as goal

abbrev pub invariant-loop-left : goal.invariant-loop-left
invariant-loop-left l = record {
  sum : capped (l.cost + sum_by (op_cost l.shared) l.left) ≡ capped (sum_by (op_cost l.shared) l.routine.code);
  low : l.cost ≤ 2 ^ 64 - 1;
}

abbrev pub decreases-loop-left : goal.decreases-loop-left
decreases-loop-left l = length l.left
