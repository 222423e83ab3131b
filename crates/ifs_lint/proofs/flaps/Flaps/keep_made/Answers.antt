-- What was found stays, or has one more round.
use Rattle.std.proofs.Common.{subst, sym}
use Rattle.ifs_lint.specs.inner.Going.{AreRounds}
use Rattle.ifs_lint.proofs.flaps.Flaps.keep_made.Goals as goal

pub returns-in-Some : goal.returns-in-Some
returns-in-Some c =
    let policy = c.args.compiled.policy.now in
    c.keep.ensures policy (rw c.in-Some.is at c.in_ok-states.ensures) (subst (λ found. AreRounds policy found.items) (sym c.worlds_of-worlds.ensures) c.requires.found)

pub returns-in-None : goal.returns-in-None
returns-in-None c = subst (λ found. AreRounds c.args.compiled.policy.now found.items) (sym c.leave.ensures) c.requires.found
