-- The findings so far.
use Rattle.ifs_lint.specs.Told.{AreOnRounds}
use Rattle.ifs_lint.proofs.linting.put_rounds.Given as goal

abbrev pub invariant-loop-flap : goal.invariant-loop-flap
invariant-loop-flap l = AreOnRounds l.policy l.findings.items
