-- The domains so far.
use Rattle.std.proofs.Common.{◌≡◌}
use Rattle.ifs_claims.specs.inner.AskedSets.{asked_domains}
use Rattle.ifs_claims.proofs.asked_sets.asked_set.Given as goal

abbrev pub invariant-loop-test : goal.invariant-loop-test
invariant-loop-test l = l.tests.items ≡ asked_domains l.always l.own 0 l.test
