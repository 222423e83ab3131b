-- The test of a text, in two parts.
use Rattle.std.proofs.Common.{◌≡◌, ℕ, Bool, true, false, List, refl}
use Rattle.std.specs.Prelude.{◌==◌, IsUtf8}
use Rattle.std.specs.List.{list_any}
use Rattle.std.specs.Str.{is_utf8}
use Rattle.std.proofs.lemmas.Str.{is_utf8-from_IsUtf8, IsUtf8-from_is_utf8}
use Rattle.std.proofs.lemmas.Bool.{false_from_ne_true}
use Rattle.ifs_image.specs.Reading.{is_text}

pub text_is : (bytes : List ℕ) (found : Bool) → IsUtf8 bytes → found ≡ list_any (λ byte. byte == 0) bytes → found ≡ false → true ≡ is_text bytes
unfolding is_text
text_is bytes found utf8 tested e = rw (is_utf8-from_IsUtf8 bytes utf8, ← tested, e) refl

pub no_text : (bytes : List ℕ) → (IsUtf8 bytes → ⊥) → false ≡ is_text bytes
unfolding is_text
no_text bytes never = rw (false_from_ne_true (is_utf8 bytes) (λ e. never (IsUtf8-from_is_utf8 bytes e))) refl
