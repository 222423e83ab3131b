use Rattle.std.proofs.Common.{◌∙◌, ◌++◌, List, ap, subst, sym, take-append-drop}
use Rattle.ifs_lex.specs.declared.token.Token.{Token}
use Rattle.ifs_expected_tokens.specs.Expected.{IsFront}
use Rattle.ifs_expected_tokens.proofs.Stops.{is_front, some_stop}
use Rattle.ifs_expected_tokens.proofs.stopping.stop_of.Goals as goal

pub returns-clause-same : goal.returns-clause-same
returns-clause-same c =
    c.in_ok-append.ensures.items
    ∙ ap (λ (p : List Token × List Token). p.0 ++ p.1) (λ i. ((c.in_ok-found.ensures.same ∙ c.in_ok-rest.ensures.items) i, c.in_ok-rest.ensures.tail i))
    ∙ take-append-drop c.in-Some.place.number c.args.tokens.now.items

pub returns-clause-stops : goal.returns-clause-stops
returns-clause-stops c = λ numbers stops.
    some_stop c.args.tokens.now.items c.args.fault c.in-Some.place (sym c.place.ensures ∙ c.in-Some.is) numbers stops c.split_off.new.self.items c.in_ok-found.found c.in_ok-rest.ensures.items
    c.in_ok-found.ensures.place c.in_ok-found.ensures.expected

pub returns-clause-some : goal.returns-clause-some
returns-clause-some c = λ ends numbers stops none.
    let front = is_front c.args.tokens.now.items c.args.fault c.in-Some.place (sym c.place.ensures ∙ c.in-Some.is) numbers stops ends in
    c.in_ok-found.ensures.some (subst IsFront (sym c.in_ok-rest.ensures.items) front) none
