-- What a search finds is there.
use Rattle.std.proofs.Common.{◌∙◌, subst}
use Rattle.std.specs.Prelude.{codes}
use Rattle.memchr.specs.Find.{FindsNeedle}
use Rattle.ifs_lint.proofs.Rests.{none_found}
use Rattle.ifs_lint.proofs.linting.may_mean.Goals as goal

pub returns : goal.returns
returns c = λ none. c.is_some.ensures ∙ none_found c.args.text.now c.find.result (subst (λ text. FindsNeedle text (codes "may flap") 0 c.find.result) c.as_bytes.ensures.value c.find.ensures) none
