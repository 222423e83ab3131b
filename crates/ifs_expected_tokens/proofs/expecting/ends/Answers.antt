use Rattle.std.proofs.Common.{◌∙◌, [], subst}
use Rattle.ifs_parse.specs.Grammar.{Says}
use Rattle.ifs_expected_tokens.proofs.Fronts.{some_cannot_end}
use Rattle.ifs_expected_tokens.proofs.expecting.ends.Goals as goal

pub returns-in-None-clause-can : goal.returns-in-None-clause-can
returns-in-None-clause-can c = λ yes.
    let it = c.in_ok-found.ensures.said c.in-None.is in
    ([], it.0, subst (λ l. Says l it.0) (c.as_slice.ensures.value ∙ c.in_ok-push.ensures.items) it.1)

pub returns-in-Some-clause-cannot : goal.returns-in-Some-clause-cannot
returns-in-Some-clause-cannot c = λ no.
    some_cannot_end c.args.front.now.items _ _ (c.as_slice.ensures.value ∙ c.in_ok-push.ensures.items) c.in-Some._number (rw c.in-Some.is at (c.in_ok-found.ensures.stops))
