-- Decimal digits: the number that they spell, read back.
use Rattle.std.proofs.Common.{◌≡◌, ℕ, ◌+◌, ◌-◌, ◌*◌, ◌<◌, ◌≤◌, ◌/◌, ◌%◌, ◌^◌, Bool, true, false, cond, List, [], ◌∷◌, ◌++◌, length}
use Rattle.std.proofs.Common.{Some, None, refl, ap, ◌∙◌, arith, decimal}
use Rattle.std.specs.List.{prefix_len, AllByRecursion}
use Rattle.std.specs.Char.{is_ascii_digit}
use Rattle.std.proofs.lemmas.Bool.Decides.{nat_tests}
use Rattle.std.proofs.lemmas.Fmt.{decimal_by_steps, decimal_nonempty}
use Rattle.ifs_base.specs.Numbers.{number_from, number_of}

-- A byte is a digit.
abbrev pub IsDigit : ℕ → Type 0
IsDigit b = is_ascii_digit b ≡ true

pub digit_range : (b : ℕ) → is_ascii_digit b ≡ true → (48 ≤ b) × (b ≤ 57)
digit_range b e = (grind (arith, nat_tests), grind (arith, nat_tests))

digit_is : (d : ℕ) → d < 10 → is_ascii_digit (48 + d) ≡ true
digit_is d h = grind (arith, nat_tests)

from_case : (n d k : ℕ) (ds : List ℕ) (t : Bool) → is_ascii_digit d ≡ t → cond t (number_from (10 * n + (d - 48)) ds) None ≡ Some k → (is_ascii_digit d ≡ true) × (number_from (10 * n + (d - 48)) ds ≡ Some k)
from_case n d k ds true e h = (e, h)
from_case n d k ds false e h = absurd cc

from_step : (n d k : ℕ) (ds : List ℕ) → number_from n (d ∷ ds) ≡ Some k → (is_ascii_digit d ≡ true) × (number_from (10 * n + (d - 48)) ds ≡ Some k)
from_step n d k ds h = from_case n d k ds (is_ascii_digit d) refl h

-- A number is spelled by digits.
from_digits : (n k : ℕ) (ds : List ℕ) → number_from n ds ≡ Some k → AllByRecursion IsDigit ds
from_digits n k [] h = tt
from_digits n k (d ∷ ds) h =
    let s = from_step n d k ds h in
    (s.0, from_digits (10 * n + (d - 48)) k ds s.1)

pub number_digits : (w : List ℕ) (n : ℕ) → number_of w ≡ Some n → AllByRecursion IsDigit w
number_digits [] n h = tt
number_digits (d ∷ ds) n h = from_digits 0 n (d ∷ ds) h

pub number_nonempty : (w : List ℕ) (n : ℕ) → number_of w ≡ Some n → 0 < length w
number_nonempty [] n h = absurd cc
number_nonempty (d ∷ ds) n h = omega arith

-- One more digit.
from_push : (n k d : ℕ) (ds : List ℕ) → d < 10 → number_from n ds ≡ Some k → number_from n (ds ++ (48 + d) ∷ []) ≡ Some (10 * k + d)
from_push n k d [] lt h =
    let same : n ≡ k = grind arith in
    let value : 10 * n + (48 + d - 48) ≡ 10 * k + d = omega arith in
    rw (digit_is d lt) (ap Some value)
from_push n k d (e ∷ ds) lt h =
    let s = from_step n e k ds h in
    rw s.0 (from_push (10 * n + (e - 48)) k d ds lt s.1)

decimal_from : (n : ℕ) → n < 2 ^ 64 → number_from 0 (decimal n) ≡ Some n
decimal_from n lt = decimal_by_steps (λ k ds. number_from 0 ds ≡ Some k)
    (λ k small. rw (digit_is k small) (ap Some (omega arith)))
    (λ k ds ten h. from_push 0 (k / 10) (k % 10) ds (omega arith) h ∙ ap Some (omega arith))
    n lt

of_from : (ds : List ℕ) → 0 < length ds → number_of ds ≡ number_from 0 ds
of_from [] h = absurd (omega arith)
of_from (d ∷ ds) h = refl

-- Decimal digits are read back.
pub number_decimal : (n : ℕ) → n < 2 ^ 64 → number_of (decimal n) ≡ Some n
number_decimal n lt = of_from (decimal n) (decimal_nonempty n lt) ∙ decimal_from n lt

-- ---- digits at the front of a text

before_rest : (ds rest : List ℕ) → AllByRecursion IsDigit ds → prefix_len is_ascii_digit rest ≡ 0 → prefix_len is_ascii_digit (ds ++ rest) ≡ length ds
before_rest [] rest a stops = stops
before_rest (d ∷ ds) rest a stops = rw a.0 (omega (arith, before_rest ds rest a.1 stops))

-- The digits of a number are all that are at the front, if no digit comes after them.
pub digits_at_front : (n : ℕ) (rest : List ℕ) → n < 2 ^ 64 → prefix_len is_ascii_digit rest ≡ 0 → prefix_len is_ascii_digit (decimal n ++ rest) ≡ length (decimal n)
digits_at_front n rest lt stops = before_rest (decimal n) rest (number_digits (decimal n) n (number_decimal n lt)) stops
