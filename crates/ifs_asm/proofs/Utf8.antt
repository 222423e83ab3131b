-- Bytes in UTF-8.
use Rattle.std.proofs.Common.{◌≡◌, ℕ, true, false, List, Some, None, refl, sym, ap, ◌∙◌}
use Rattle.std.specs.Prelude.{IsUtf8}
use Rattle.std.specs.Str.{is_utf8}
use Rattle.std.proofs.lemmas.Str.{is_utf8-from_IsUtf8, IsUtf8-from_is_utf8}
use Rattle.std.proofs.lemmas.Bool.{false_from_ne_true, both_ways}
use Rattle.ifs_asm.specs.inner.Words.{in_utf8}

pub is_text : (text bytes : List ℕ) → IsUtf8 text → text ≡ bytes → Some text ≡ in_utf8 bytes
is_text text bytes utf8 same =
    let e : is_utf8 bytes ≡ true = ap is_utf8 (sym same) ∙ is_utf8-from_IsUtf8 text utf8 in
    rw e (ap Some same)

pub is_no_text : (bytes : List ℕ) → (IsUtf8 bytes → false ≡ true) → None ≡ in_utf8 bytes
is_no_text bytes never =
    let e : is_utf8 bytes ≡ false = false_from_ne_true (is_utf8 bytes) (λ t. both_ways true (sym (never (IsUtf8-from_is_utf8 bytes t))) refl) in
    rw e refl
