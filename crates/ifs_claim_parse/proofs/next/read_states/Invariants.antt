-- The states so far.
use Rattle.std.proofs.Common.{◌≢◌, [], length}
use Rattle.ifs_claim_parse.specs.inner.Left.{BeginWithStates}
use Rattle.ifs_claim_parse.proofs.next.read_states.Given as goal

abbrev pub invariant-names : goal.invariant-names
invariant-names l = record {
  named : BeginWithStates l.line.tables.now l.tokens l.states.items l.left;
  some : l.states.items ≢ [];
}

abbrev pub decreases-names : goal.decreases-names
decreases-names l = length l.left
