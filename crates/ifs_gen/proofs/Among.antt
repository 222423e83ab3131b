-- The shared codes of a list: each qualifies, they are distinct, and properties of all codes hold of them.
use Rattle.std.proofs.Common.{◌≡◌, ℕ, zero, suc, Bool, true, false, not, cond, List, [], ◌∷◌, take, Some, refl, sym, subst}
use Rattle.std.specs.Prelude.{filter, slice_get}
use Rattle.std.proofs.lemmas.Option.{none-some, same_Some}
use Rattle.std.specs.List.{AllByRecursion}
use Rattle.ifs_base.specs.declared.op.Op.{Op}
use Rattle.ifs_gen.specs.Sharing.{same_code, is_shared, firsts, most_shared, shared_among}
use Rattle.ifs_gen.specs.inner.Meetings.{AreApart}

module _ {T : Type 0} where
  filtered : (P : T → Type 0) (b : Bool) (x : T) (xs : List T) → P x → AllByRecursion P xs → AllByRecursion P (cond b (x ∷ xs) xs)
  filtered P true x xs here rest = (here, rest)
  filtered P false x xs here rest = rest

  -- A property of all members holds of the filtered ones.
  pub each_filter : (P : T → Type 0) (test : T → Bool) (xs : List T) → AllByRecursion P xs → AllByRecursion P (filter test xs)
  each_filter P test [] all = tt
  each_filter P test (x ∷ xs) all = filtered P (test x) x (filter test xs) all.0 (each_filter P test xs all.1)

  pub each_take : (P : T → Type 0) (n : ℕ) (xs : List T) → AllByRecursion P xs → AllByRecursion P (take n xs)
  each_take P zero xs all = tt
  each_take P (suc n) [] all = tt
  each_take P (suc n) (x ∷ xs) all = (all.0, each_take P n xs all.1)

  -- A property of all members holds of the one at an index.
  pub each_at : (P : T → Type 0) (xs : List T) (k : ℕ) (x : T) → AllByRecursion P xs → slice_get xs k ≡ Some x → P x
  each_at P [] k x all e = absurd (none-some x e)
  each_at P (y ∷ xs) zero x all e = subst P (same_Some y x e) all.0
  each_at P (y ∷ xs) (suc k) x all e = each_at P xs k x all.1 e

  -- Two properties together, and a weaker one.
  pub each_both : (P Q : T → Type 0) (xs : List T) → AllByRecursion P xs → AllByRecursion Q xs → AllByRecursion (λ x. P x × Q x) xs
  each_both P Q [] one two = tt
  each_both P Q (x ∷ xs) one two = ((one.0, two.0), each_both P Q xs one.1 two.1)

  pub each_weaker : (P Q : T → Type 0) → ((x : T) → P x → Q x) → (xs : List T) → AllByRecursion P xs → AllByRecursion Q xs
  each_weaker P Q f [] all = tt
  each_weaker P Q f (x ∷ xs) all = (f x all.0, each_weaker P Q f xs all.1)

  passed : (test : T → Bool) (b : Bool) (x : T) (xs : List T) → test x ≡ b → AllByRecursion (λ y. test y ≡ true) xs → AllByRecursion (λ y. test y ≡ true) (cond b (x ∷ xs) xs)
  passed test true x xs here rest = (here, rest)
  passed test false x xs here rest = rest

  -- The filtered members pass the test.
  pub filter_passes : (test : T → Bool) (xs : List T) → AllByRecursion (λ y. test y ≡ true) (filter test xs)
  filter_passes test [] = tt
  filter_passes test (x ∷ xs) = passed test (test x) x (filter test xs) refl (filter_passes test xs)

  apart : (e : T → T → Bool) (b : Bool) (x : T) (xs : List T) → AllByRecursion (λ y. e x y ≡ false) xs → AreApart e xs → AreApart e (cond b (x ∷ xs) xs)
  apart e true x xs here rest = (here, rest)
  apart e false x xs here rest = rest

  -- Filtered members stay distinct.
  pub distinct_filter : (e : T → T → Bool) (test : T → Bool) (xs : List T) → AreApart e xs → AreApart e (filter test xs)
  distinct_filter e test [] all = tt
  distinct_filter e test (x ∷ xs) all = apart e (test x) x (filter test xs) (each_filter (λ y. e x y ≡ false) test xs all.0) (distinct_filter e test xs all.1)

  pub distinct_take : (e : T → T → Bool) (n : ℕ) (xs : List T) → AreApart e xs → AreApart e (take n xs)
  distinct_take e zero xs all = tt
  distinct_take e (suc n) [] all = tt
  distinct_take e (suc n) (x ∷ xs) all = (each_take (λ y. e x y ≡ false) n xs all.0, distinct_take e n xs all.1)

not_true : (b : Bool) → not b ≡ true → b ≡ false
not_true true e = sym e
not_true false e = refl

each_first : (P : List Op → Type 0) (codes : List (List Op)) → AllByRecursion P codes → AllByRecursion P (firsts codes)
each_first P [] all = tt
each_first P (code ∷ codes) all = (all.0, each_filter P (λ other. not (same_code code other)) (firsts codes) (each_first P codes all.1))

pub firsts_distinct : (codes : List (List Op)) → AreApart same_code (firsts codes)
firsts_distinct [] = tt
firsts_distinct (code ∷ codes) =
    let others = λ (other : List Op). not (same_code code other) in (
      each_weaker (λ other. not (same_code code other) ≡ true) (λ other. same_code code other ≡ false) (λ other e. not_true (same_code code other) e) (filter others (firsts codes))
          (filter_passes others (firsts codes)),
      distinct_filter same_code others (firsts codes) (firsts_distinct codes),
    )

-- A property of all codes holds of the shared ones.
pub each_shared : (P : List Op → Type 0) (all : List (List Op)) → AllByRecursion P all → AllByRecursion P (shared_among all)
each_shared P all holds = each_take P most_shared (filter (is_shared all) (firsts all)) (each_filter P (is_shared all) (firsts all) (each_first P all holds))

-- Each shared code qualifies.
pub shared_qualify : (all : List (List Op)) → AllByRecursion (λ code. is_shared all code ≡ true) (shared_among all)
shared_qualify all = each_take (λ code. is_shared all code ≡ true) most_shared (filter (is_shared all) (firsts all)) (filter_passes (is_shared all) (firsts all))

-- The shared codes are distinct.
pub shared_distinct : (all : List (List Op)) → AreApart same_code (shared_among all)
shared_distinct all = distinct_take same_code most_shared (filter (is_shared all) (firsts all)) (distinct_filter same_code (is_shared all) (firsts all) (firsts_distinct all))
