-- The findings on rounds are those that were made.
use Rattle.std.proofs.Common.{◌∙◌, ap, subst, sym}
use Rattle.ifs_lint.specs.Told.{AreOnRounds, IsQuietOf}
use Rattle.ifs_lint.proofs.linting.linted_on.Goals as goal

pub returns-clause-rounds : goal.returns-clause-rounds
returns-clause-rounds c =
    subst (λ findings. AreOnRounds c.args.compiled.policy.now findings.items) (sym (ap (λ said. said.findings) c.in_ok-linted.ensures.rounds ∙ c.in_ok-rounds.ensures.findings)) c.in_ok-told.ensures

pub returns-clause-rests : goal.returns-clause-rests
returns-clause-rests c = subst (IsQuietOf c.args.text.now c.args.compiled.policy.now) (sym c.in_ok-linted.ensures.rounds) c.in_ok-rounds.ensures.rests
