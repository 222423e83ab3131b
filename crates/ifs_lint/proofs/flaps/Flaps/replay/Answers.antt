-- What was found stays, where none was made.
use Rattle.std.proofs.Common.{subst, sym}
use Rattle.ifs_lint.specs.inner.Going.{AreRounds}
use Rattle.ifs_lint.proofs.flaps.Flaps.replay.Goals as goal

pub returns-in_default : goal.returns-in_default
returns-in_default c = subst (λ found. AreRounds c.args.compiled.policy.now found.items) (sym c.leave.ensures) c.requires.found
