use Rattle.std.proofs.Common.{ap, ◌∙◌}
use Rattle.ifs_lex.specs.Lexemes as lexemes
use Rattle.ifs_lex.proofs.Boundaries.{gap_boundary, lexeme_boundary, rest_utf8}
use Rattle.ifs_lex.proofs.cursor.Cursor.next.Goals as goal

pub skip-requires : goal.skip-requires
skip-requires c =
    let left = λ (p : lexemes.TextCursor). p.left in
    gap_boundary _ _ _ c.as_bytes.ensures.utf8 (c.as_bytes.ensures.value ∙ ap left c.self.view_is) c.gap_len-gap.ensures

pub skip-requires-2 : goal.skip-requires-2
skip-requires-2 c =
    let left = λ (p : lexemes.TextCursor). p.left in
    let e = c.as_bytes.ensures.value ∙ ap left c.self.view_is in
    let b = gap_boundary _ _ _ c.as_bytes.ensures.utf8 e c.gap_len-gap.ensures in
    let u = rest_utf8 _ _ _ _ c.as_bytes.ensures.utf8 e b (ap left c.skip.ensures) in
    lexeme_boundary _ _ u (c.piece_here-len.ensures.len ∙ ap (λ xs. (lexemes.lexeme_here xs).len) (ap left c.self-2.view_is))
