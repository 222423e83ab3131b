use Rattle.std.proofs.Common.{sym, ◌∙◌, ap, option_map}
use Rattle.ifs_lex.specs.Lexemes as lexemes
use Rattle.ifs_lex.specs.inner.Kept.{whats_of_rope}
use Rattle.ifs_lex.proofs.Tables.{keeps_on}
use Rattle.ifs_lex.proofs.Unrolled.{value_goes, value_ends, value_fails, value_whole, last_moves}
use Rattle.ifs_lex.proofs.macros.MacroTable.value_of.Goals as goal

pub returns-in-None-clause-whats : goal.returns-in-None-clause-whats
returns-in-None-clause-whats c =
    let lexeme = λ (p : lexemes.Spanned). p.lexeme in
    let more = sym (ap (option_map (whats_of_rope c.longer.new.self.ropes)) c.in-None.is) ∙ c.in_ok-more.ensures.whats in
    value_fails _ _ _ c.lexemes.cursor _ _ c.lexemes.invariant.1 (ap lexeme c.next.ensures.found) more c.lexemes.invariant.0 ∙ sym (value_whole _ _ c.if-text-gt-MAX_TEXT.false)

pub returns-then-is_last-clause-whats : goal.returns-then-is_last-clause-whats
returns-then-is_last-clause-whats c =
    let lexeme = λ (p : lexemes.Spanned). p.lexeme in
    let more = sym (ap (option_map (whats_of_rope c.longer.new.self.ropes)) c.in-Some.is) ∙ c.in_ok-more.ensures.whats in
    value_ends _ _ _ _ c.lexemes.cursor _ _ c.lexemes.invariant.1 (ap lexeme c.next.ensures.found) more (sym c.is_last.ensures ∙ c.if-is_last.true) c.lexemes.invariant.0 ∙ sym (value_whole _ _ c.if-text-gt-MAX_TEXT.false)

pub lexemes-smaller : goal.lexemes-smaller
lexemes-smaller c =
    let lexeme = λ (p : lexemes.Spanned). p.lexeme in
    last_moves c.lexemes.cursor _ _ (ap lexeme c.next.ensures.found) c.next.ensures.after (sym c.is_last.ensures ∙ c.if-is_last.false)

pub lexemes-preserved : goal.lexemes-preserved
lexemes-preserved c =
    let lexeme = λ (p : lexemes.Spanned). p.lexeme in
    let more = sym (ap (option_map (whats_of_rope c.longer.new.self.ropes)) c.in-Some.is) ∙ c.in_ok-more.ensures.whats in
    let goes = value_goes _ _ _ _ c.lexemes.cursor _ _ _ c.lexemes.invariant.1 (ap lexeme c.next.ensures.found) c.next.ensures.after more (sym c.is_last.ensures ∙ c.if-is_last.false) c.lexemes.invariant.0 in
    (goes, c.in_ok-more.ensures.same ∙ c.lexemes.invariant.1, keeps_on _ _ _ c.lexemes.invariant.2 c.in_ok-more.ensures.keeps, rw c.in-Some.is at c.in_ok-more.ensures.value)
