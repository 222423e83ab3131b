use Rattle.std.proofs.Common.{List, ℕ, sym, ◌∙◌, ap, subst}
use Rattle.std.specs.Str.{IsCharBoundary}
use Rattle.ifs_lex.specs.Lexemes.{quoted_value}
use Rattle.ifs_lex.proofs.Values.{kept, kept_whole, kept_parts}
use Rattle.ifs_lex.proofs.pieces.split_kept.Goals as goal

pub split_at-requires : goal.split_at-requires
split_at-requires c =
    (kept c.args.quote c.args.text.now _ _ c.as_bytes.ensures.utf8 c.as_bytes.ensures.value (sym c.in-Some.is ∙ c.kept_len.ensures)).before

pub split_at-requires-in-Some : goal.split_at-requires-in-Some
split_at-requires-in-Some c =
    let f = kept c.args.quote c.args.text.now _ _ c.as_bytes.ensures.utf8 c.as_bytes.ensures.value (sym c.in-Some.is ∙ c.kept_len.ensures) in
    let P : List ℕ → Type 0 = λ xs. IsCharBoundary xs 1 in
    subst P (sym c.split_at.ensures.back) f.after

pub returns-in-Some-clause-value : goal.returns-in-Some-clause-value
returns-in-Some-clause-value c =
    let f = kept c.args.quote c.args.text.now _ _ c.as_bytes.ensures.utf8 c.as_bytes.ensures.value (sym c.in-Some.is ∙ c.kept_len.ensures) in
    kept_parts c.args.quote _ _ _ _ _ f c.split_at.ensures.front c.split_at.ensures.back c.split_at-in-Some.ensures.back

pub returns-in-None-clause-value : goal.returns-in-None-clause-value
returns-in-None-clause-value c =
    let e = kept_whole c.args.quote _ (sym c.kept_len.ensures ∙ c.in-None.is) in
    let same = c.as_bytes.ensures.value in
    ap (quoted_value c.args.quote) (sym same) ∙ e ∙ same
