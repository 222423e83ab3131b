use Rattle.std.proofs.Common.{sym, ◌∙◌}
use Rattle.ifs_lex.proofs.Boundaries.{inside_boundary}
use Rattle.ifs_lex.proofs.pieces.quoted_here.Goals as goal

pub split_at-requires : goal.split_at-requires
split_at-requires c =
    inside_boundary c.args.quote _ _ _ c.requires c.as_bytes.ensures.value (sym c.in-Some.is ∙ c.inside_len.ensures.value)
