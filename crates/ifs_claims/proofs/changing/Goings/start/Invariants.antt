-- The states before this one.
use Rattle.ifs_claims.specs.inner.Going.{where_starts, IsSame}
use Rattle.ifs_claims.specs.inner.Widening.{Widens}
use Rattle.ifs_claims.proofs.changing.Goings.start.Given as goal

abbrev pub invariant-loop-next : goal.invariant-loop-next
invariant-loop-next l = record {
  below : Widens l.fn.self.scope (where_starts l.own l.held l.fn.self l.left l.state l.next) l.fn.before l.extent;
  back : IsSame l.fn.self l.self;
}
