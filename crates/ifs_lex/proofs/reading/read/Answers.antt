use Rattle.std.proofs.Common.{sym, ◌∙◌, ap, Ok}
use Rattle.ifs_lex.specs.Lexemes as lexemes
use Rattle.ifs_lex.specs.inner.Pieces.{spanned_of}
use Rattle.ifs_lex.proofs.Segments.{turn_goes, turn_ends, turn_fails, turn_smaller, some_same}
use Rattle.ifs_lex.proofs.reading.read.Goals as goal

pub lexemes-preserved : goal.lexemes-preserved
lexemes-preserved c =
    turn_goes _ _ c.lexemes.cursor c.next-found.new.self c.definition.new.cursor (spanned_of c.next-found.result) _ _ _ c.next-found.ensures.found c.next-found.ensures.after c.in_ok-made.ensures.found (sym (some_same _ c.in_ok-made.made)) c.in_ok-made.ensures.after c.in-Ok.ensures (sym c.is_last.ensures ∙ c.if-is_last.false) c.lexemes.invariant

pub returns-then-is_last : goal.returns-then-is_last
returns-then-is_last c =
    turn_ends _ _ c.lexemes.cursor c.next-found.new.self c.definition.new.cursor (spanned_of c.next-found.result) _ _ _ c.next-found.ensures.found c.next-found.ensures.after c.in_ok-made.ensures.found (sym (some_same _ c.in_ok-made.made)) c.in_ok-made.ensures.after c.in-Ok.ensures (sym c.is_last.ensures ∙ c.if-is_last.true) c.lexemes.invariant ∙ ap (λ ts. Ok ts) (sym c.into_tokens.ensures)

pub returns-in-Err : goal.returns-in-Err
returns-in-Err c = λ other.
    turn_fails _ _ c.lexemes.cursor c.next-found.new.self c.definition.new.cursor (spanned_of c.next-found.result) _ _ _ c.next-found.ensures.found c.next-found.ensures.after c.in_ok-made.ensures.found (sym (some_same _ c.in_ok-made.made)) c.in_ok-made.ensures.after (c.in-Err.ensures other) c.lexemes.invariant

pub lexemes-smaller : goal.lexemes-smaller
lexemes-smaller c =
    let lexeme = λ (p : lexemes.Spanned). p.lexeme in
    turn_smaller c.lexemes.cursor _ _ _ _ (ap lexeme c.next-found.ensures.found) c.next-found.ensures.after c.in_ok-made.ensures.after (sym c.is_last.ensures ∙ c.if-is_last.false)
