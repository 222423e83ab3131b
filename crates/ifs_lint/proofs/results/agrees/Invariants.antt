-- The tests before this one.
use Rattle.ifs_lint.specs.inner.Results.{AreResults}
use Rattle.ifs_lint.proofs.results.agrees.Given as goal

abbrev pub invariant-loop-test : goal.invariant-loop-test
invariant-loop-test l = AreResults l.core.state.position.facts.tests l.results l.test
