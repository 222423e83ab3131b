-- Bytes of words: what digits are not, and lists of numbers.
use Rattle.std.proofs.Common.{◌≡◌, ℕ, suc, ◌+◌, ◌<◌, Bool, true, false, List, [], ◌∷◌, ◌++◌, refl, subst, arith, codes}
use Rattle.std.proofs.Common.{inl, inr, ◌⊎◌}
use Rattle.std.specs.Prelude.{◌==◌}
use Rattle.std.specs.List.{flat_map, prefix_len, AllByRecursion}
use Rattle.std.specs.Char.{is_ascii_digit}
use Rattle.std.specs.Str.{bytes_eq}
use Rattle.std.proofs.lemmas.Bool.{cond_both, ne_eqb}
use Rattle.std.proofs.lemmas.Slice.Eq.{bytes_eq-Decides}
use Rattle.ifs_base.specs.Words.{listed}
use Rattle.ifs_base.proofs.Decimals.{digit_range}

-- ---- lists

pub each_append : {X : Type 0} (P : X → Type 0) (xs ys : List X) → AllByRecursion P xs → AllByRecursion P ys → AllByRecursion P (xs ++ ys)
each_append P [] ys a b = b
each_append P (x ∷ xs) ys a b = (a.0, each_append P xs ys a.1 b)

pub each_weaker : {X : Type 0} (P Q : X → Type 0) → ((x : X) → P x → Q x) → (xs : List X) → AllByRecursion P xs → AllByRecursion Q xs
each_weaker P Q f [] a = tt
each_weaker P Q f (x ∷ xs) a = (f x a.0, each_weaker P Q f xs a.1)

-- A fact on the number of bytes at the front that pass a test, byte by byte.
pub by_prefix : (test : ℕ → Bool) (P : ℕ → List ℕ → Type 0) → P 0 [] → ((b : ℕ) (bs : List ℕ) → test b ≡ false → P 0 (b ∷ bs))
    → ((b n : ℕ) (bs : List ℕ) → test b ≡ true → P n bs → P (suc n) (b ∷ bs)) → (bs : List ℕ) → P (prefix_len test bs) bs
by_prefix test P none stop more [] = none
by_prefix test P none stop more (b ∷ bs) =
    let n = prefix_len test bs in
    let next : suc n ≡ 1 + n = omega arith in
    cond_both (test b) (1 + n) 0 (λ m. P m (b ∷ bs)) (λ e. subst (λ (m : ℕ). P m (b ∷ bs)) next (more b n bs e (by_prefix test P none stop more bs))) (λ e. stop b bs e)

-- Each byte of a list: those of its items, the commas between them, and the dash of an empty list.
each_other : (P : ℕ → Type 0) (items : List (List ℕ)) → P 44 → AllByRecursion (AllByRecursion P) items → AllByRecursion P (flat_map (λ other. codes "," ++ other) items)
each_other P [] comma a = tt
each_other P (item ∷ items) comma a = (comma, each_append P item (flat_map (λ other. codes "," ++ other) items) a.0 (each_other P items comma a.1))

pub each_listed : (P : ℕ → Type 0) (items : List (List ℕ)) → P 44 → P 45 → AllByRecursion (AllByRecursion P) items → AllByRecursion P (listed items)
each_listed P [] comma dash a = (dash, tt)
each_listed P (item ∷ items) comma dash a = each_append P item (flat_map (λ other. codes "," ++ other) items) a.0 (each_other P items comma a.1)

-- ---- words that are one

pub same_word : (a b : List ℕ) → bytes_eq a b ≡ true → a ≡ b
same_word a b e = (bytes_eq-Decides a b).0 e

pub same_itself : (a : List ℕ) → bytes_eq a a ≡ true
same_itself a = (bytes_eq-Decides a a).1 refl

-- ---- digits

pub digit_is_not : (b c : ℕ) → is_ascii_digit b ≡ true → ((c < 48) ⊎ (57 < c)) → (b == c) ≡ false
digit_is_not b c e other =
    let r = digit_range b e in
    ne_eqb b c (λ same. elim other [
      | inl low ↦ omega arith
      | inr high ↦ omega arith
    ])
