-- A mask has the bits of its tests, which are those that a body mentions.
use Rattle.std.proofs.Common.{◌≡◌, ◌↔◌, ℕ, zero, suc, ◌+◌, ◌-◌, ◌*◌, ◌^◌, ◌<◌, ⊎_elim}
use Rattle.std.proofs.Common.{Bool, true, false, List, [], ◌∷◌, Contains, refl}
use Rattle.std.proofs.Common.{sym, ap, subst, ◌∙◌, arith}
use Rattle.std.specs.Prelude.{◌==◌, if◌then◌else◌}
use Rattle.std.specs.List.{list_any}
use Rattle.std.specs.Int.{bit_at}
use Rattle.std.proofs.lemmas.Bool.{cases_order, eqb-true, eq-eqb}
use Rattle.std.proofs.lemmas.List.Folds.{Any-from_list_any, list_any_at}
use Rattle.std.proofs.lemmas.Nat.Bits.{bit_at_lowest, bit_at_above, bit_at_cat_low, bit_at_cat_high}
use Rattle.ifs_base.specs.declared.ids.TestId.{TestId}
use Rattle.ifs_sched.specs.Schedule.{has_test}
use Rattle.ifs_policy.specs.Meaning.{Block, Mentions, mentioned}
use Rattle.ifs_gen.specs.PlainCode.{tests_below}
use Rattle.ifs_gen.specs.PlainSizes.{mask_of}
use Rattle.ifs_gen.specs.Events.{ActiveAreMentioned}
use Rattle.ifs_gen.proofs.Images.{mask_append, mask_below}

-- The mask of the test with a number, if it is mentioned.
abbrev one_more : Bool → ℕ → ℕ
one_more b n = mask_of (if b then record { 0 = n } ∷ [] else [])

low_bit : (b : Bool) (m n t : ℕ) → t < n → bit_at (m + one_more b n) t ≡ bit_at m t
low_bit true m n t lt = let e : m + (2 ^ n + 0) ≡ 1 * 2 ^ n + m = omega arith in ap (λ k. bit_at k t) e ∙ bit_at_cat_low 1 n m t lt
low_bit false m n t lt = let e : m + 0 ≡ m = omega arith in ap (λ k. bit_at k t) e

high_bit : (b : Bool) (m n : ℕ) → m < 2 ^ n → has_test (m + one_more b n) n ≡ b
high_bit true m n lt =
    let e : m + (2 ^ n + 0) ≡ 1 * 2 ^ n + m = omega arith in
    let none : n - n ≡ 0 = omega arith in
    ap (λ k. bit_at k n == 1) e ∙ ap (λ k. k == 1) (bit_at_cat_high 1 n m n lt (omega arith) ∙ ap (bit_at 1) none ∙ bit_at_lowest 1)
high_bit false m n lt =
    let e : m + 0 ≡ m = omega arith in
    ap (λ k. bit_at k n == 1) e ∙ ap (λ k. k == 1) (bit_at_above m n n lt (omega arith))

has_mentioned : (count : ℕ) (xs : List TestId) (t : ℕ) → t < count → has_test (mask_of (tests_below count xs)) t ≡ list_any (λ test. test.0 == t) xs
has_mentioned zero xs t lt = absurd (omega arith)
has_mentioned (suc n) xs t lt =
    let b = list_any (λ (test : TestId). test.0 == n) xs in
    let m = mask_of (tests_below n xs) in
    let e = mask_append (tests_below n xs) (if b then record { 0 = n } ∷ [] else []) in
    ap (λ k. has_test k t) e ∙
    ⊎_elim
    (λ same. ap (has_test (m + one_more b n)) same ∙ high_bit b m n (mask_below n xs) ∙ ap (λ k. list_any (λ (test : TestId). test.0 == k) xs) (sym same))
    (λ other. ap (λ k. k == 1) (low_bit b m n t (⊎_elim (λ less. less) (λ more. absurd (omega arith)) other)) ∙ has_mentioned n xs t (⊎_elim (λ less. less) (λ more. absurd (omega arith)) other))
    (cases_order t n)

abbrev test : ℕ → TestId
test k = record { 0 = k }

-- A number is that of a member exactly if the list has the test with that number.
of_number : (xs : List TestId) (t : ℕ) → list_any (λ test. test.0 == t) xs ≡ true → Contains xs (test t)
of_number xs t h =
    let a = Any-from_list_any (λ (test : TestId). test.0 == t) xs h in
    subst (Contains xs) (ap test (eqb-true a.1.0 t a.4)) (a.0, a.2, a.3)

number_of : (xs : List TestId) (t : ℕ) → Contains xs (test t) → list_any (λ test. test.0 == t) xs ≡ true
number_of xs t c = list_any_at (λ (test : TestId). test.0 == t) xs c.0 (test t) c.1 (ap (λ (test : TestId). test.0 == t) c.2 ∙ eq-eqb t t refl)

module _ (is_mentioned : (block : Block) (test : TestId) → Contains (mentioned block) test ↔ Mentions test block) where
  pub active_are_mentioned : ActiveAreMentioned
  active_are_mentioned count part t lt =
      let same = has_mentioned count (mentioned part.body) t lt in
      let listed = is_mentioned part.body (test t) in (
        (λ h. listed.0 (of_number (mentioned part.body) t (sym same ∙ h))),
        (λ h. same ∙ number_of (mentioned part.body) t (listed.1 h)),
      )
