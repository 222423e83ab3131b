use Rattle.std.proofs.Common.{sym, ◌∙◌, arith}
use Rattle.ifs_lex.proofs.Boundaries.{first_boundary, quote_ascii}
use Rattle.ifs_lex.proofs.pieces.piece_here.Goals as goal

pub split_at-requires : goal.split_at-requires
split_at-requires c =
    first_boundary _ _ c.as_bytes.ensures.utf8 c.as_bytes.ensures.value (omega arith)
    (quote_ascii _ (sym c.is_quote.ensures ∙ c.if-is_quote.true))

pub split_at-requires-in-36 : goal.split_at-requires-in-36
split_at-requires-in-36 c =
    first_boundary _ _ c.as_bytes.ensures.utf8 c.as_bytes.ensures.value (omega arith) (omega arith)
