use Rattle.ifs_verify.specs.inner.Found.{AreFound, HaveRoom}
use Rattle.ifs_verify.proofs.bounds.check_bounds.Given as goal

abbrev pub invariant-loop-routine : goal.invariant-loop-routine
invariant-loop-routine l = record {
  found : AreFound l.image l.heights.items l.bounds l.routine;
  room : HaveRoom l.image l.by_place;
}
