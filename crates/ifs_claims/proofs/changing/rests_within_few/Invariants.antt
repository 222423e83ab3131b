-- The states before this one.
use Rattle.ifs_claims.specs.inner.Changing.{AreQuietFor}
use Rattle.ifs_claims.proofs.changing.rests_within_few.Given as goal

abbrev pub invariant-loop-index : goal.invariant-loop-index
invariant-loop-index l = AreQuietFor l.reachable l.most l.index l.extent
