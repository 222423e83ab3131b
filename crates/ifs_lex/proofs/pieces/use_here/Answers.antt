use Rattle.ifs_lex.proofs.Boundaries.{name_boundary}
use Rattle.ifs_lex.proofs.pieces.use_here.Goals as goal

pub split_at-requires : goal.split_at-requires
split_at-requires c =
    name_boundary _ _ _ c.as_bytes-in-len1-up.ensures.utf8 c.as_bytes-in-len1-up.ensures.value c.name_run-len.ensures
