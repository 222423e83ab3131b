-- Escapes in quotes, and what follows if there is none.
use Rattle.std.proofs.Common.{◌≡◌, ℕ, ◌+◌, ◌<◌, Bool, true, false, cond, List}
use Rattle.std.proofs.Common.{[], ◌∷◌, length, Option, Some, None, refl, arith}
use Rattle.std.specs.Prelude.{◌==◌}
use Rattle.std.specs.List.{prefix_len}
use Rattle.ifs_asm.specs.Spellings.{is_plain}
use Rattle.ifs_asm.specs.inner.Words.{Within, High, hex_value, high_turn, after_turn, at_end, text_from, ending}

-- ---- two digits

one_digit : (digit : Option ℕ) → after_turn at_end (high_turn digit) ≡ None
one_digit None = refl
one_digit (Some digit) = refl

pub no_digits : (bs : List ℕ) → length bs < 2 → text_from bs High ≡ None
no_digits [] lt = refl
no_digits (b ∷ []) lt = one_digit (hex_value b)
no_digits (a ∷ b ∷ bs) lt = absurd (omega (arith, lt))

-- ---- where no byte is given

not_plain : (n : ℕ) (t : Bool) → cond t (1 + n) 0 ≡ 0 → t ≡ false
not_plain n true h = absurd (omega (arith, h))
not_plain n false h = refl

one_byte : (b : ℕ) (t u : Bool) → (b == 34) ≡ t → (b == 92) ≡ u → is_plain b ≡ false → text_from (b ∷ []) Within ≡ ending (b ∷ [])
one_byte b true u e f p = rw e refl
one_byte b false true e f p = rw (e, f) refl
one_byte b false false e f p = rw (p, e, f) refl

pub ends_short : (bs : List ℕ) → prefix_len is_plain bs ≡ 0 → length bs < 2 → text_from bs Within ≡ ending bs
ends_short [] whole lt = refl
ends_short (b ∷ []) whole lt = one_byte b (b == 34) (b == 92) refl refl (not_plain 0 (is_plain b) whole)
ends_short (a ∷ b ∷ bs) whole lt = absurd (omega (arith, lt))
