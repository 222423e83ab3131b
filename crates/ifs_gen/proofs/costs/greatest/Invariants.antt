-- The greatest so far and that of the rest make the greatest of all.
use Rattle.std.proofs.Common.{◌≡◌, length, max}
use Rattle.ifs_gen.specs.inner.Costs.{most_of_inits, most_of_bodies}
use Rattle.ifs_gen.proofs.costs.greatest.Given as goal

abbrev pub invariant-loop-left : goal.invariant-loop-left
invariant-loop-left l = record {
  init : max l.most.init (most_of_inits l.shared l.left) ≡ most_of_inits l.shared l.handlers;
  body : max l.most.body (most_of_bodies l.shared l.left) ≡ most_of_bodies l.shared l.handlers;
}

abbrev pub decreases-loop-left : goal.decreases-loop-left
decreases-loop-left l = length l.left
