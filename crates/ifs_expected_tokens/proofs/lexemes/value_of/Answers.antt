use Rattle.std.proofs.Common.{◌∙◌, ◌∷◌, ap, sym}
use Rattle.ifs_expected_tokens.proofs.Values.{by_word, by_quotes}
use Rattle.ifs_expected_tokens.proofs.lexemes.value_of.Goals as goal

pub returns-in-Word : goal.returns-in-Word
returns-in-Word c =
    by_word c.args.name.now c.in_ok-equals.equals.now c.in_ok-value.value.now c.args.rest.now c.in_ok-value.field-0-1.now c.in_ok-name.field-0
    c.in_ok-name.ensures (sym c.if-not-is_equals.ensures) (c.in_ok-equals.ensures.cases.0 ∙ ap (λ l. c.in_ok-equals.equals.now ∷ l) c.in_ok-value.ensures.cases.0)
    c.in-Word.word c.in-Word.is (sym c.if-not-is_reserved.ensures)

pub returns-in-Quoted : goal.returns-in-Quoted
returns-in-Quoted c =
    by_quotes c.args.name.now c.in_ok-equals.equals.now c.in_ok-value.value.now c.args.rest.now c.in_ok-value.field-0-1.now c.in_ok-name.field-0
    c.in_ok-name.ensures (sym c.if-not-is_equals.ensures) (c.in_ok-equals.ensures.cases.0 ∙ ap (λ l. c.in_ok-equals.equals.now ∷ l) c.in_ok-value.ensures.cases.0)
    c.in-Quoted.quote c.in-Quoted.inside c.in-Quoted.is
