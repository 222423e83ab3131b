-- The greatest so far and that of the rest make the greatest of all.
use Rattle.std.proofs.Common.{◌≡◌, length, max}
use Rattle.ifs_gen.specs.inner.Amounts.{most_of_inits, most_of_bodies}
use Rattle.ifs_gen.proofs.amounts.greatest.Given as goal

abbrev pub invariant-loop-left : goal.invariant-loop-left
invariant-loop-left l = record {
  init : max l.most.init (most_of_inits l.amount l.left) ≡ most_of_inits l.amount l.measures;
  body : max l.most.body (most_of_bodies l.amount l.left) ≡ most_of_bodies l.amount l.measures;
}

abbrev pub decreases-loop-left : goal.decreases-loop-left
decreases-loop-left l = length l.left
