-- The tests before this one.
use Rattle.ifs_prove.specs.inner.Making.{AreResults}
use Rattle.ifs_prove.proofs.worlds.agrees.Given as goal

abbrev pub invariant-loop-test : goal.invariant-loop-test
invariant-loop-test l = AreResults l.core.state.position.facts.tests l.results l.test
