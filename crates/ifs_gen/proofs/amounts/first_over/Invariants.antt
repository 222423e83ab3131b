-- No number so far exceeds the limit.
use Rattle.std.proofs.Common.{◌≡◌, ◌*◌, drop}
use Rattle.ifs_gen.proofs.Totals.{Passes}
use Rattle.ifs_gen.proofs.amounts.first_over.Given as goal

abbrev pub invariant-loop-part : goal.invariant-loop-part
invariant-loop-part l = record {
  passes : Passes l.amount l.limit l.measures (drop l.part-index l.measures) l.routine;
  place : l.routine ≡ 2 * l.part-index;
}
