-- Without a round, what was found stays.
use Rattle.std.proofs.Common.{◌∙◌, subst, sym}
use Rattle.ifs_lint.specs.inner.Going.{AreRounds}
use Rattle.ifs_lint.proofs.flaps.look.Goals as goal

pub returns-in-None : goal.returns-in-None
returns-in-None c = subst (λ found. AreRounds c.args.compiled.policy.now found.items) (sym (c.leave_if.ensures ∙ c.ask.ensures)) c.requires.found

pub replay-requires-clause-found : goal.replay-requires-clause-found
replay-requires-clause-found c = subst (λ found. AreRounds c.args.compiled.policy.now found.items) (sym c.ask.ensures) c.requires.found
