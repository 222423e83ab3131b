-- The states before this one. Each call has fewer changes left.
use Rattle.std.proofs.Common.{◌+◌, ◌*◌, ◌-◌}
use Rattle.ifs_claims.specs.inner.Going.{IsSame}
use Rattle.ifs_claims.specs.inner.Widening.{Widens}
use Rattle.ifs_claims.proofs.Goes.{where_below}
use Rattle.ifs_claims.proofs.changing.Goings.+go.Given as goal

abbrev pub decreases-go : goal.decreases-go
decreases-go l = 8 * l.left

abbrev pub decreases-each : goal.decreases-each
decreases-each l = 8 * l.left + 5

abbrev pub decreases-own : goal.decreases-own
decreases-own l = 8 * l.left + 4

abbrev pub decreases-by_always : goal.decreases-by_always
decreases-by_always l = 8 * l.left + 4

abbrev pub decreases-unless : goal.decreases-unless
decreases-unless l = 8 * l.left + 3

abbrev pub decreases-over : goal.decreases-over
decreases-over l = 8 * l.left + 2

abbrev pub decreases-on : goal.decreases-on
decreases-on l = 8 * l.left + 1

abbrev pub invariant-go-loop-next : goal.invariant-go-loop-next
invariant-go-loop-next l = record {
  below : Widens l.fn.self.scope (where_below l.fn.self (l.left - 1) l.state l.next) l.fn.before l.extent;
  back : IsSame l.fn.self l.self;
}
