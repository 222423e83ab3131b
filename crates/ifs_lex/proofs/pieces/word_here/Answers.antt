use Rattle.ifs_lex.proofs.Boundaries.{word_boundary}
use Rattle.ifs_lex.proofs.pieces.word_here.Goals as goal

pub split_at-requires : goal.split_at-requires
split_at-requires c =
    word_boundary _ _ _ c.as_bytes.ensures.utf8 c.as_bytes.ensures.value c.word_run-len.ensures
