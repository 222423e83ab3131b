-- The rounds that were found so far.
use Rattle.ifs_lint.specs.inner.Going.{AreRounds}
use Rattle.ifs_lint.proofs.flaps.look_at_all.Given as goal

abbrev pub invariant-loop-number : goal.invariant-loop-number
invariant-loop-number l = AreRounds l.compiled.policy.now l.flaps.found.items
