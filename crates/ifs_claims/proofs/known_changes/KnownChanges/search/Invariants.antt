-- What is known is so, and has an end. Each search leaves fewer numbers.
use Rattle.std.proofs.Common.{◌≡◌}
use Rattle.ifs_claims.specs.Changes.{AreKnown}
use Rattle.ifs_solver.specs.Budgets.{IsSpent}
use Rattle.ifs_claims.proofs.Known.{HasEnd, width}
use Rattle.ifs_claims.proofs.known_changes.KnownChanges.search.Given as goal

abbrev pub invariant-loop-number : goal.invariant-loop-number
invariant-loop-number l = record {
  known : AreKnown l.reachable l.self;
  end : HasEnd l.self;
  halved : l.self.is_halved ≡ l.fn.self.is_halved;
  spent : IsSpent l.fn.share l.share;
}

abbrev pub decreases-loop-number : goal.decreases-loop-number
decreases-loop-number l = width l.self
