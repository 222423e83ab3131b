-- Masks of tests: a test is added or taken out, and the first one is found.
use Rattle.std.proofs.Common.{◌≡◌, ◌≢◌, ℕ, ◌+◌, ◌*◌, ◌%◌, ◌^◌, ◌<◌, ◌≤◌, Bool, true, false, ◌||◌, eqb, refl, List, [], ◌∷◌}
use Rattle.std.proofs.Common.{length, get_or, take, ap, sym, ◌∙◌, arith, ⊎_elim, bit_or, bit_and, w64}
use Rattle.std.specs.List.{list_any}
use Rattle.std.specs.Int.{bit_not, trailing_zeros}
use Rattle.std.proofs.lemmas.Bool.{cases_eq}
use Rattle.std.proofs.lemmas.Bool.Decides.{nat_tests}
use Rattle.std.proofs.lemmas.List.{take_more}
use Rattle.std.proofs.lemmas.List.Folds.{list_any-append}
use Rattle.std.proofs.lemmas.Nat.{and_le_l}
use Rattle.std.proofs.lemmas.Nat.Bits.{bit_at-trailing_zeros, bit_at-zero, bit_at_clear_other, bit_at_clear_same, bit_at_set_other, bit_at_set_same}
use Rattle.ifs_sched.specs.Schedule.{has_test}

or_true : (b : Bool) → true ≡ (b || true)
or_true true = refl
or_true false = refl

or_false : (b : Bool) → b ≡ (b || false)
or_false true = refl
or_false false = refl

-- A mask with one more test.
pub has_test-added : (mask k t : ℕ) → k < 64 → has_test (bit_or mask (1 * 2 ^ k % 2 ^ 64)) t ≡ (has_test mask t || eqb k t)
has_test-added mask k t h =
    ⊎_elim
    (λ e.
    let same : eqb k t ≡ true = grind (arith, nat_tests) in
    ap (λ i. has_test (bit_or mask (1 * 2 ^ k % 2 ^ 64)) i) e
    ∙ ap (λ b. eqb b 1) (bit_at_set_same w64 mask k h)
    ∙ or_true (has_test mask t)
    ∙ ap (λ b. has_test mask t || b) (sym same))
    (λ ne.
    let other : eqb k t ≡ false = grind (arith, nat_tests) in
    ap (λ b. eqb b 1) (bit_at_set_other w64 mask k h t ne)
    ∙ or_false (has_test mask t)
    ∙ ap (λ b. has_test mask t || b) (sym other))
    (cases_eq t k)

-- Whether one of some elements passes, with one more element.
pub list_any-more : {X : Type 0} (p : X → Bool) (xs : List X) (i : ℕ) (d : X) → i < length xs
    → list_any p (take (i + 1) xs) ≡ (list_any p (take i xs) || p (get_or xs i d))
list_any-more p xs i d h =
    ap (list_any p) (take_more xs i d h)
    ∙ list_any-append p (take i xs) (get_or xs i d ∷ [])
    ∙ ap (λ b. list_any p (take i xs) || b) (sym (or_false (p (get_or xs i d))))

-- A mask without one of its tests.
pub has_test-taken : (mask k : ℕ) → k < 64 → has_test (bit_and mask (bit_not w64 (1 * 2 ^ k % 2 ^ 64))) k ≡ false
has_test-taken mask k h = ap (λ b. eqb b 1) (bit_at_clear_same w64 mask k h)

pub has_test-others : (mask k t : ℕ) → k < 64 → t < 64 → t ≢ k → has_test (bit_and mask (bit_not w64 (1 * 2 ^ k % 2 ^ 64))) t ≡ has_test mask t
has_test-others mask k t h in' ne = ap (λ b. eqb b 1) (bit_at_clear_other w64 mask k h t in' ne)

-- The first test of a mask that is not empty.
pub record IsFirstTest (mask k : ℕ) : Type 0 where
  pub there : k < 64
  pub has : has_test mask k ≡ true
  pub lower : (t : ℕ) → t < k → has_test mask t ≡ false

pub first_test : (mask : ℕ) → 0 < mask → mask < 2 ^ 64 → IsFirstTest mask (trailing_zeros w64 mask)
first_test mask some fits =
    let found = bit_at-trailing_zeros w64 mask some fits in
    record {
      there = found.0;
      has = ap (λ b. eqb b 1) found.1;
      lower = λ t h. ap (λ b. eqb b 1) (found.2 t h);
    }

-- The empty mask has no test.
pub has_test-empty : (t : ℕ) → has_test 0 t ≡ false
has_test-empty t = ap (λ b. eqb b 1) (bit_at-zero t)

-- A mask without a test is a smaller number.
pub taken_is_less : (mask k : ℕ) → k < 64 → has_test mask k ≡ true → bit_and mask (bit_not w64 (1 * 2 ^ k % 2 ^ 64)) < mask
taken_is_less mask k h has =
    let rest = bit_and mask (bit_not w64 (1 * 2 ^ k % 2 ^ 64)) in
    let least : rest ≤ mask = and_le_l mask (bit_not w64 (1 * 2 ^ k % 2 ^ 64)) in
    ⊎_elim
    (λ e. absurd (differ (sym (has_test-taken mask k h) ∙ ap (λ m. has_test m k) e ∙ has)))
    (λ ne. omega arith)
    (cases_eq rest mask)
  where
    differ : false ≡ true → ⊥
    differ e = cc
