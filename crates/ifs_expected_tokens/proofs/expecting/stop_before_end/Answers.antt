use Rattle.std.proofs.Common.{◌∙◌, subst}
use Rattle.ifs_parse.specs.Grammar.{Says}
use Rattle.ifs_expected_tokens.proofs.Fronts.{some_can, some_cannot, some_empty}
use Rattle.ifs_expected_tokens.proofs.expecting.stop_before_end.Goals as goal

pub returns-clause-said : goal.returns-clause-said
returns-clause-said c = λ none.
    let it = c.in_ok-found.ensures.said none in
    (_, it.0, subst (λ l. Says l it.0) (c.as_slice.ensures.value ∙ c.in_ok-push.ensures.items) it.1)

pub returns-clause-can : goal.returns-clause-can
returns-clause-can c =
    some_can c.args.front.now.items _ c.requires.0 _ (c.as_slice.ensures.value ∙ c.in_ok-push.ensures.items) c.in_ok-found.found c.in_ok-found.ensures.stops

pub returns-clause-cannot : goal.returns-clause-cannot
returns-clause-cannot c =
    some_cannot c.args.front.now.items _ c.requires.0 _ (c.as_slice.ensures.value ∙ c.in_ok-push.ensures.items) c.in_ok-found.found c.in_ok-found.ensures.stops

pub returns-clause-empty : goal.returns-clause-empty
returns-clause-empty c = λ none. some_empty c.args.front.now.items _ none _ (c.as_slice.ensures.value ∙ c.in_ok-push.ensures.items) c.in_ok-found.found c.in_ok-found.ensures.stops
