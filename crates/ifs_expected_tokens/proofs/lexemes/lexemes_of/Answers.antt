use Rattle.std.proofs.Common.{◌∙◌, ◌+◌, ◌++◌, List, length, ap, arith, map, sym}
use Rattle.ifs_lex.specs.declared.cursor.Lexeme.{Lexeme}
use Rattle.ifs_lex.specs.Lexemes.{TextCursor, lexemes_from}
use Rattle.ifs_lex.specs.inner.Pieces.{spanned_of}
use Rattle.ifs_expected_tokens.proofs.Lexing.{last_one, none_left, none_yet, one_more}
use Rattle.ifs_expected_tokens.proofs.lexemes.lexemes_of.Goals as goal

pub lexemes-init : goal.lexemes-init
lexemes-init c =
    none_yet c.args.text.now
    ∙ ap (λ (p : List Lexeme × TextCursor). map spanned_of p.0 ++ lexemes_from (length c.args.text.now + 1) p.1) (λ i. (sym c.new-lexemes.ensures.items i, sym c.start-cursor.ensures i))

pub lexemes-preserved : goal.lexemes-preserved
lexemes-preserved c =
    one_more _ c.lexemes.lexemes.items _ c.next-found.result c.lexemes.left c.lexemes.cursor _ (omega (arith, c.lexemes-test.true)) c.lexemes.invariant
    c.next-found.ensures.found c.next-found.ensures.after (sym c.if-is_last.ensures) c.in_ok-push.ensures.items

pub returns-then-is_last : goal.returns-then-is_last
returns-then-is_last c = λ fits.
    last_one _ c.lexemes.lexemes.items _ c.next-found.result c.lexemes.left c.lexemes.cursor (omega (arith, c.lexemes-test.true)) c.lexemes.invariant
    c.next-found.ensures.found (sym c.if-is_last.ensures) c.in_ok-push.ensures.items

pub returns : goal.returns
returns c = λ fits. none_left _ c.lexemes.lexemes.items c.lexemes.left c.lexemes.cursor (omega (arith, c.lexemes-test.false)) c.lexemes.invariant
