-- A whole line at hand.
use Rattle.std.proofs.Common.{◌≡◌, ◌≢◌, ℕ, ◌+◌, ◌<◌, Option, Bool, true, false, cond, not, nat_lt, List, [], ◌∷◌, ◌++◌}
use Rattle.std.proofs.Common.{length, take, drop, get_or, Some, None, sym, ap, ◌∙◌, arith, length-take, zero, suc}
use Rattle.std.specs.Prelude.{◌==◌, if◌then◌else◌, option_and_then}
use Rattle.std.specs.List.{position, position_or_len}
use Rattle.std.proofs.lemmas.List.{drop_more, take-append-drop}
use Rattle.std.proofs.lemmas.List.Sums.{prefix_len_passes, prefix_len_stops}
use Rattle.std.proofs.lemmas.Bool.Decides.{nat_tests}
use Rattle.ifs_session.specs.inner.Reading.{HasNoNewline, StandsFirst, first_line}

abbrev pub is_newline : ℕ → Bool
is_newline byte = byte == 10

other_byte : (byte : ℕ) → not (byte == 10) ≡ true → byte ≢ 10
other_byte byte h = grind (arith, nat_tests)

a_newline : (byte : ℕ) → not (byte == 10) ≡ false → byte ≡ 10
a_newline byte h = grind (arith, nat_tests)

-- A front without a newline.
plain_front : (bytes : List ℕ) (n : ℕ) → ((k : ℕ) → k < n → get_or bytes k 0 ≢ 10) → HasNoNewline (take n bytes)
plain_front bytes zero h = tt
plain_front [] (suc n) h = tt
plain_front (byte ∷ bytes) (suc n) h = (h 0 (omega arith), plain_front bytes n (λ k below. h (suc k) (omega arith)))

found : (n m i : ℕ) → cond (nat_lt n m) (Some n) None ≡ Some i → (n ≡ i) × (n < m)
found n m i e = (grind (arith, nat_tests), grind (arith, nat_tests))

pub stands_first : (bytes : List ℕ) (end most : ℕ) → position is_newline bytes ≡ Some end → end < most → StandsFirst (take end bytes) most bytes
stands_first bytes end most e below =
    let other : ℕ → Bool = λ byte. not (is_newline byte) in
    let at = found (position_or_len is_newline bytes) (length bytes) end e in
    let within : end < length bytes = omega (arith, at.0, at.1) in
    record {
      plain = plain_front bytes end (λ k before. other_byte _ (prefix_len_passes other bytes k 0 (omega (arith, at.0, before))));
      within = omega (arith, length-take end bytes, below);
      rest = drop (end + 1) bytes;
      front = sym (take-append-drop end bytes) ∙ ap (λ rest. take end bytes ++ rest)
          (drop_more bytes end 0 within ∙ ap (λ byte. byte ∷ drop (end + 1) bytes)
          (ap (λ n. get_or bytes n 0) (sym at.0) ∙ a_newline _ (prefix_len_stops other bytes 0 at.1)));
    }

-- The line that ends with a newline at this place, if it is short enough.
abbrev line_to : ℕ → List ℕ → ℕ → Option (List ℕ)
line_to most bytes end = if nat_lt end most then Some (take end bytes) else None

pub line_to_end : (bytes : List ℕ) (end most : ℕ) (short : Bool) → position is_newline bytes ≡ Some end → nat_lt end most ≡ short → (if short then Some (take end bytes) else None) ≡ first_line most bytes
line_to_end bytes end most short e tested = sym (ap (option_and_then (line_to most bytes)) e ∙ ap (λ test. if test then Some (take end bytes) else None) tested)

pub no_line : (bytes : List ℕ) (most : ℕ) → position is_newline bytes ≡ None → None ≡ first_line most bytes
no_line bytes most e = sym (ap (option_and_then (line_to most bytes)) e)
