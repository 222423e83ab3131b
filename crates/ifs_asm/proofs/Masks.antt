-- Writes the tests of a mask one after the other.
use Rattle.std.proofs.Common.{◌≡◌, ℕ, suc, ◌+◌, ◌-◌, ◌<◌, ◌≤◌, ◌==◌, Bool, true, false, List, []}
use Rattle.std.proofs.Common.{◌++◌, refl, sym, ap, ◌∙◌, append_assoc, arith, decimal, map, codes}
use Rattle.std.proofs.lemmas.List.{append-nil}
use Rattle.std.specs.Int.{bit_at}
use Rattle.ifs_base.specs.Words.{listed}
use Rattle.ifs_asm.specs.Texts.{tests_from, tests_of}
use Rattle.ifs_asm.specs.inner.Lists.{before_item, left_of_list, left_at}

pub takes : (is_first : Bool) (mask t : ℕ) → t < 64 → (bit_at mask t == 1) ≡ true → left_at is_first mask t ≡ (before_item is_first ++ decimal t) ++ left_at false mask (t + 1)
unfolding tests_from
takes true mask t lt e =
    let k : 64 - t ≡ suc (64 - (t + 1)) = omega arith in
    rw (k, e) refl
takes false mask t lt e =
    let k : 64 - t ≡ suc (64 - (t + 1)) = omega arith in
    rw (k, e) refl

pub skips : (is_first : Bool) (mask t : ℕ) → t < 64 → (bit_at mask t == 1) ≡ false → left_at is_first mask t ≡ left_at is_first mask (t + 1)
unfolding tests_from
skips is_first mask t lt e =
    let k : 64 - t ≡ suc (64 - (t + 1)) = omega arith in
    rw (k, e) refl

pub at_end : (is_first : Bool) (mask t : ℕ) → 64 ≤ t → left_at is_first mask t ≡ left_of_list is_first []
unfolding tests_from
at_end is_first mask t le =
    let k : 64 - t ≡ 0 = omega arith in
    rw k refl

pub at_start : (mask : ℕ) → left_at true mask 0 ≡ listed (map decimal (tests_of mask))
unfolding tests_of
at_start mask = refl

pub ends_with_dash : (is_first : Bool) (mask t : ℕ) (out total : List ℕ) → 64 ≤ t → is_first ≡ true → out ++ left_at is_first mask t ≡ total → out ++ codes "-" ≡ total
ends_with_dash is_first mask t out total le e h = ap (λ (xs : List ℕ). out ++ xs) (sym (at_end is_first mask t le ∙ ap (λ (b : Bool). left_of_list b []) e)) ∙ h

pub ends : (is_first : Bool) (mask t : ℕ) (out total : List ℕ) → 64 ≤ t → is_first ≡ false → out ++ left_at is_first mask t ≡ total → out ≡ total
ends is_first mask t out total le e h = sym (append-nil out) ∙ ap (λ (xs : List ℕ). out ++ xs) (sym (at_end is_first mask t le ∙ ap (λ (b : Bool). left_of_list b []) e)) ∙ h

pub puts : (is_first : Bool) (mask t : ℕ) (old new : List ℕ) → t < 64 → (bit_at mask t == 1) ≡ true → new ≡ old ++ (before_item is_first ++ decimal t) → new ++ left_at false mask (t + 1) ≡ old ++ left_at is_first mask t
puts is_first mask t old new lt e put =
    ap (λ (xs : List ℕ). xs ++ left_at false mask (t + 1)) put ∙ append_assoc old (before_item is_first ++ decimal t) (left_at false mask (t + 1))
    ∙ ap (λ (xs : List ℕ). old ++ xs) (sym (takes is_first mask t lt e))

pub passes : (is_first : Bool) (mask t : ℕ) (old : List ℕ) → t < 64 → (bit_at mask t == 1) ≡ false → old ++ left_at is_first mask (t + 1) ≡ old ++ left_at is_first mask t
passes is_first mask t old lt e = ap (λ (xs : List ℕ). old ++ xs) (sym (skips is_first mask t lt e))
