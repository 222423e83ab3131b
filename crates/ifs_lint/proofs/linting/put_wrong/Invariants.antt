-- The findings so far.
use Rattle.ifs_lint.specs.Told.{AreOnRounds}
use Rattle.ifs_lint.proofs.linting.put_wrong.Given as goal

abbrev pub invariant-loop-remark : goal.invariant-loop-remark
invariant-loop-remark l = AreOnRounds l.policy l.findings.items
