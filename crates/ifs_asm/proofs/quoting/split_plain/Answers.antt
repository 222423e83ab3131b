use Rattle.std.proofs.Common.{◌≡◌, ◌++◌, List, ℕ, get_or, refl, sym, ◌∙◌, ap, subst}
use Rattle.std.specs.List.{flat_map}
use Rattle.std.specs.Str.{IsCharBoundary}
use Rattle.std.proofs.lemmas.Str.{IsCharBoundary-before_ascii}
use Rattle.ifs_base.specs.Words.{quoted_byte}
use Rattle.ifs_asm.proofs.Runs.{split, whole, first_cut}
use Rattle.ifs_asm.proofs.quoting.split_plain.Goals as goal

pub returns-then-len-bytes-clause-value : goal.returns-then-len-bytes-clause-value
returns-then-len-bytes-clause-value c =
    let same = c.as_bytes-bytes.ensures.value in
    ap (flat_map quoted_byte) (sym same) ∙ whole _ _ c.plain_run-len.ensures.value c.if-len-bytes.true ∙ same

pub bounds-bytes-len : goal.bounds-bytes-len
bounds-bytes-len c = (split _ _ c.plain_run-len.ensures.value c.if-len-bytes.false).within

pub split_at-requires : goal.split_at-requires
split_at-requires c =
    let f = split _ _ c.plain_run-len.ensures.value c.if-len-bytes.false in
    let P : List ℕ → Type 0 = λ xs. IsCharBoundary xs c.plain_run-len.result in
    subst P c.as_bytes-bytes.ensures.value (IsCharBoundary-before_ascii c.as_bytes-bytes.result.now c.plain_run-len.result f.within f.ascii)

pub split_at-requires-2 : goal.split_at-requires-2
split_at-requires-2 c =
    let f = split _ _ c.plain_run-len.ensures.value c.if-len-bytes.false in
    first_cut _ _ _ _ c.as_bytes-bytes.ensures.utf8 c.as_bytes-bytes.ensures.value c.split_at.ensures.back f

pub returns-clause-value : goal.returns-clause-value
returns-clause-value c =
    let same = c.as_bytes-bytes.ensures.value in
    let f = split _ _ c.plain_run-len.ensures.value c.if-len-bytes.false in
    subst (λ (xs : List ℕ). flat_map quoted_byte xs ≡ c.split_at.result.0.now ++ quoted_byte (get_or c.as_bytes-bytes.result.now c.plain_run-len.result 0) ++ flat_map quoted_byte c.split_at-2.result.1.now) same
    (f.value ∙ rw (c.split_at.ensures.front, c.split_at-2.ensures.back, c.split_at.ensures.back, same) refl)

pub returns-clause-ascii : goal.returns-clause-ascii
returns-clause-ascii c = (split _ _ c.plain_run-len.ensures.value c.if-len-bytes.false).ascii
