-- The first distinct members of a list that qualify, and the shared conditions of a policy.
use Rattle.std.proofs.Common.{◌≡◌, ◌≢◌, ◌∙◌, ℕ, zero, suc, ◌+◌, ◌<◌, ◌≤◌, ◌⊎◌, ⊎_elim, inl, inr, Bool, true, false, cond, not, ◌&&◌, true≢false}
use Rattle.std.proofs.Common.{List, [], ◌∷◌, take, filter, length, count_by, get_or, All, AllPairs, Contains, Some, refl, sym, ap, subst, arith}
use Rattle.std.specs.Prelude.{slice_get, nat_le}
use Rattle.std.specs.List.{AllByRecursion}
use Rattle.std.proofs.lemmas.Bool.{and_parts, and_from, leb-true, le-leb}
use Rattle.std.proofs.lemmas.Option.{none-some, same_Some}
use Rattle.std.proofs.lemmas.List.{length-take}
use Rattle.std.proofs.lemmas.List.Elements.{All-from_recursion}
use Rattle.std.proofs.lemmas.List.Sums.{sum_by-cons}
use Rattle.ifs_base.specs.Spelling.{IsReadBack}
use Rattle.ifs_base.specs.declared.op.Op.{Op}
use Rattle.ifs_policy.specs.Whole.{first_uses}
use Rattle.ifs_gen.specs.PlainSizes.{parts_of}
use Rattle.ifs_gen.specs.Sharing.{same_code, conditions_in, is_shared, shared_among}
use Rattle.ifs_gen.specs.inner.Meetings.{AreApart}
use Rattle.ifs_gen.specs.FirstShared.{OccursBefore, OccursTwice, AreShared, FirstAreShared}
use Rattle.ifs_gen.proofs.Among.{each_weaker, shared_qualify, shared_distinct}
use Rattle.ifs_gen.proofs.CodeKeys.{code_decides}

module _ {T : Type 0} where
  -- A member of a list.
  abbrev In : T → List T → Type 0
  In x [] = ⊥
  In x (y ∷ ys) = (y ≡ x) ⊎ In x ys

  -- A member of a list, with another one after it.
  abbrev Precedes : T → T → List T → Type 0
  Precedes one other [] = ⊥
  Precedes one other (x ∷ xs) = ((x ≡ one) × In other xs) ⊎ Precedes one other xs

  in_at : (xs : List T) (k : ℕ) (x : T) → slice_get xs k ≡ Some x → In x xs
  in_at [] k x e = absurd (none-some x e)
  in_at (y ∷ ys) zero x e = inl (same_Some y x e)
  in_at (y ∷ ys) (suc k) x e = inr (in_at ys k x e)

  precedes_at : (xs : List T) (k l : ℕ) (one other : T) → k < l → slice_get xs k ≡ Some one → slice_get xs l ≡ Some other → Precedes one other xs
  precedes_at [] k l one other before at behind = absurd (none-some one at)
  precedes_at (x ∷ xs) k zero one other before at behind = absurd (omega (arith, before))
  precedes_at (x ∷ xs) zero (suc l) one other before at behind = inl (same_Some x one at, in_at xs l other behind)
  precedes_at (x ∷ xs) (suc k) (suc l) one other before at behind = inr (precedes_at xs k l one other (omega (arith, before)) at behind)

  contains_in : (xs : List T) (x : T) → In x xs → Contains xs x
  contains_in [] x h = absurd h
  contains_in (y ∷ ys) x h =
      ⊎_elim
      (λ here. (0, omega arith, here))
      (λ there. let c = contains_in ys x there in let below = c.1 in (suc c.0, omega (arith, below), c.2))
      h

  precedes_in : (one other : T) (xs : List T) → Precedes one other xs → In other xs
  precedes_in one other [] h = absurd h
  precedes_in one other (x ∷ xs) h = ⊎_elim (λ here. inr here.1) (λ there. inr (precedes_in one other xs there)) h

  -- ---- filtered lists

  in_filter : (p : T → Bool) (x : T) (xs : List T) → In x (filter p xs) → In x xs × (p x ≡ true)
  in_filter p x [] h = absurd h
  in_filter p x (y ∷ ys) h = by (p y) refl (in_filter p x ys) h
    where
      by : (b : Bool) → p y ≡ b → (In x (filter p ys) → In x ys × (p x ≡ true)) → In x (cond b (y ∷ filter p ys) (filter p ys)) → ((y ≡ x) ⊎ In x ys) × (p x ≡ true)
      by true e more h = ⊎_elim (λ here. (inl here, ap p (sym here) ∙ e)) (λ there. let m = more there in (inr m.0, m.1)) h
      by false e more h = let m = more h in (inr m.0, m.1)

  filter_in : (p : T → Bool) (x : T) (xs : List T) → In x xs → p x ≡ true → In x (filter p xs)
  filter_in p x [] h passes = absurd h
  filter_in p x (y ∷ ys) h passes = by (p y) refl (λ there. filter_in p x ys there passes) h
    where
      by : (b : Bool) → p y ≡ b → (In x ys → In x (filter p ys)) → (y ≡ x) ⊎ In x ys → In x (cond b (y ∷ filter p ys) (filter p ys))
      by true e more h = ⊎_elim (λ here. inl here) (λ there. inr (more there)) h
      by false e more h = ⊎_elim (λ here. absurd (true≢false (sym passes ∙ ap p (sym here) ∙ e))) more h

  precedes_filter : (p : T → Bool) (one other : T) (xs : List T) → Precedes one other (filter p xs) → Precedes one other xs
  precedes_filter p one other [] h = absurd h
  precedes_filter p one other (x ∷ xs) h = by (p x) (precedes_filter p one other xs) h
    where
      by : (b : Bool) → (Precedes one other (filter p xs) → Precedes one other xs) → Precedes one other (cond b (x ∷ filter p xs) (filter p xs))
          → ((x ≡ one) × In other xs) ⊎ Precedes one other xs
      by true more h = ⊎_elim (λ here. inl (here.0, (in_filter p other xs here.1).0)) (λ there. inr (more there)) h
      by false more h = inr (more h)

  -- ---- the first members

  in_take : (n : ℕ) (x : T) (xs : List T) → In x (take n xs) → In x xs
  in_take zero x xs h = absurd h
  in_take (suc n) x [] h = absurd h
  in_take (suc n) x (y ∷ ys) h = ⊎_elim (λ here. inl here) (λ there. inr (in_take n x ys there)) h

  precedes_take : (n : ℕ) (one other : T) (xs : List T) → Precedes one other (take n xs) → Precedes one other xs
  precedes_take zero one other xs h = absurd h
  precedes_take (suc n) one other [] h = absurd h
  precedes_take (suc n) one other (x ∷ xs) h = ⊎_elim (λ here. inl (here.0, in_take n other xs here.1)) (λ there. inr (precedes_take n one other xs there)) h

  -- A member is among the first ones, or these are as many as there may be, and it is behind them all.
  taken : (n : ℕ) (x : T) (xs : List T) → In x xs → In x (take n xs) ⊎ ((length (take n xs) ≡ n) × AllByRecursion (λ y. Precedes y x xs) (take n xs))
  taken zero x xs h = inr (refl, tt)
  taken (suc n) x [] h = absurd h
  taken (suc n) x (y ∷ ys) h =
      ⊎_elim
      (λ here. inl (inl here))
      (λ there. ⊎_elim
      (λ in'. inl (inr in'))
      (λ behind. inr (ap suc behind.0, (inl (refl, there), each_weaker (λ z. Precedes z x ys) (λ z. Precedes z x (y ∷ ys)) (λ z p. inr p) (take n ys) behind.1)))
      (taken n x ys there))
      h

module _ {T : Type 0} (eq : T → T → Bool) (decides : (a b : T) → (eq a b ≡ true → a ≡ b) × (a ≡ b → eq a b ≡ true)) where
  -- A filtered member differs from the one that is filtered out.
  differs : (x y : T) → not (eq x y) ≡ true → x ≢ y
  differs x y e same = true≢false (sym e ∙ ap not ((decides x y).1 same))

  in_first_uses : (x : T) (xs : List T) → In x xs → In x (first_uses eq xs)
  in_first_uses x [] h = absurd h
  in_first_uses x (y ∷ ys) h = by (eq y x) refl (in_first_uses x ys) h
    where
      by : (b : Bool) → eq y x ≡ b → (In x ys → In x (first_uses eq ys)) → (y ≡ x) ⊎ In x ys → In x (y ∷ filter (λ z. not (eq y z)) (first_uses eq ys))
      by true e more h = inl ((decides y x).0 e)
      by false e more h = ⊎_elim (λ here. inl here) (λ there. inr (filter_in (λ z. not (eq y z)) x (first_uses eq ys) (more there) (ap not e))) h

  -- What precedes another one among the first uses occurs before each occurrence of it.
  used_before : (one other : T) (xs : List T) (j : ℕ) → Precedes one other (first_uses eq xs) → slice_get xs j ≡ Some other → (i : ℕ) × (i < j) × (slice_get xs i ≡ Some one)
  used_before one other [] j h at = absurd h
  used_before one other (x ∷ xs) zero h at =
      let here : x ≡ other = same_Some x other at in
      let apart = differs x other (⊎_elim
      (λ first. (in_filter (λ z. not (eq x z)) other (first_uses eq xs) first.1).1)
      (λ later. (in_filter (λ z. not (eq x z)) other (first_uses eq xs) (precedes_in one other (filter (λ z. not (eq x z)) (first_uses eq xs)) later)).1)
      h) in
      absurd (apart here)
  used_before one other (x ∷ xs) (suc j) h at =
      ⊎_elim
      (λ first. (0, omega arith, ap Some first.0))
      (λ later.
      let before = used_before one other xs j (precedes_filter (λ z. not (eq x z)) one other (first_uses eq xs) later) at in
      let below = before.1 in
      (suc before.0, omega (arith, below), before.2))
      h

  apart_pairs : (xs : List T) → AreApart eq xs → AllPairs (λ one other. one ≢ other) xs
  apart_pairs [] apart i j d before within = absurd (omega (arith, within))
  apart_pairs (x ∷ xs) apart i zero d before within = absurd (omega (arith, before))
  apart_pairs (x ∷ xs) apart zero (suc j) d before within =
      λ same. true≢false (sym ((decides x (get_or xs j d)).1 same) ∙ All-from_recursion (λ y. eq x y ≡ false) xs apart.0 j d (omega (arith, within)))
  apart_pairs (x ∷ xs) apart (suc i) (suc j) d before within = apart_pairs xs apart.1 i j d (omega (arith, before)) (omega (arith, within))

  -- ---- members that occur twice

  counted : (x y : T) (ys : List T) (b : Bool) → eq x y ≡ b → count_by (eq x) (y ∷ ys) ≡ cond b 1 0 + count_by (eq x) ys
  counted x y ys b e = sum_by-cons (λ z. cond (eq x z) 1 0) y ys ∙ ap (λ c. cond c 1 0 + count_by (eq x) ys) e

  one_of : (x : T) (xs : List T) → 1 ≤ count_by (eq x) xs → (j : ℕ) × (slice_get xs j ≡ Some x)
  one_of x [] some = absurd (omega (arith, some))
  one_of x (y ∷ ys) some = by (eq x y) refl (one_of x ys)
    where
      by : (b : Bool) → eq x y ≡ b → (1 ≤ count_by (eq x) ys → (j : ℕ) × (slice_get ys j ≡ Some x)) → (j : ℕ) × (slice_get (y ∷ ys) j ≡ Some x)
      by true e more = (0, ap Some (sym ((decides x y).0 e)))
      by false e more =
          let all = counted x y ys false e in
          let later = more (omega (arith, some, all)) in
          (suc later.0, later.1)

  two_of : (x : T) (xs : List T) → 2 ≤ count_by (eq x) xs → (j : ℕ) × (slice_get xs j ≡ Some x) × ((i : ℕ) × (i < j) × (slice_get xs i ≡ Some x))
  two_of x [] some = absurd (omega (arith, some))
  two_of x (y ∷ ys) some = by (eq x y) refl (two_of x ys)
    where
      by : (b : Bool) → eq x y ≡ b → (2 ≤ count_by (eq x) ys → (j : ℕ) × (slice_get ys j ≡ Some x) × ((i : ℕ) × (i < j) × (slice_get ys i ≡ Some x)))
          → (j : ℕ) × (slice_get (y ∷ ys) j ≡ Some x) × ((i : ℕ) × (i < j) × (slice_get (y ∷ ys) i ≡ Some x))
      by true e more =
          let all = counted x y ys true e in
          let later = one_of x ys (omega (arith, some, all)) in
          (suc later.0, later.1, (0, omega arith, ap Some (sym ((decides x y).0 e))))
      by false e more =
          let all = counted x y ys false e in
          let later = more (omega (arith, some, all)) in
          let below = later.2.1 in
          (suc later.0, later.1, (suc later.2.0, omega (arith, below), later.2.2))

  some_counted : (x : T) (xs : List T) (j : ℕ) → slice_get xs j ≡ Some x → 1 ≤ count_by (eq x) xs
  some_counted x [] j at = absurd (none-some x at)
  some_counted x (y ∷ ys) zero at = let all = counted x y ys true ((decides x y).1 (sym (same_Some y x at))) in omega (arith, all)
  some_counted x (y ∷ ys) (suc j) at = by (eq x y) refl (some_counted x ys j at)
    where
      by : (b : Bool) → eq x y ≡ b → 1 ≤ count_by (eq x) ys → 1 ≤ count_by (eq x) (y ∷ ys)
      by true e later = let all = counted x y ys true e in omega (arith, all)
      by false e later = let all = counted x y ys false e in omega (arith, all, later)

  two_counted : (x : T) (xs : List T) (i j : ℕ) → i < j → slice_get xs i ≡ Some x → slice_get xs j ≡ Some x → 2 ≤ count_by (eq x) xs
  two_counted x [] i j before one two = absurd (none-some x one)
  two_counted x (y ∷ ys) i zero before one two = absurd (omega (arith, before))
  two_counted x (y ∷ ys) zero (suc j) before one two =
      let all = counted x y ys true ((decides x y).1 (sym (same_Some y x one))) in
      let later = some_counted x ys j two in
      omega (arith, all, later)
  two_counted x (y ∷ ys) (suc i) (suc j) before one two = by (eq x y) refl (two_counted x ys i j (omega (arith, before)) one two)
    where
      by : (b : Bool) → eq x y ≡ b → 2 ≤ count_by (eq x) ys → 2 ≤ count_by (eq x) (y ∷ ys)
      by true e later = let all = counted x y ys true e in omega (arith, all, later)
      by false e later = let all = counted x y ys false e in omega (arith, all, later)

module _ (back : IsReadBack) (all : List (List Op)) where
  abbrev qualified : List (List Op)
  qualified = filter (is_shared all) (first_uses same_code all)

  are_long : (code : List Op) → is_shared all code ≡ true → 5 ≤ length code
  are_long code q = leb-true 5 (length code) (and_parts (nat_le 5 (length code)) (nat_le 2 (count_by (same_code code) all)) q).0

  are_twice : (code : List Op) → is_shared all code ≡ true → OccursTwice all code
  are_twice code q =
      two_of same_code (code_decides back) code all
      (leb-true 2 (count_by (same_code code) all) (and_parts (nat_le 5 (length code)) (nat_le 2 (count_by (same_code code) all)) q).1)

  qualifies : (code : List Op) → 5 ≤ length code → OccursTwice all code → is_shared all code ≡ true
  qualifies code long twice =
      and_from (nat_le 5 (length code)) (nat_le 2 (count_by (same_code code) all)) (le-leb 5 (length code) long)
      (le-leb 2 (count_by (same_code code) all) (two_counted same_code (code_decides back) code all twice.2.0 twice.0 twice.2.1 twice.2.2 twice.1))

  occurs : (j : ℕ) (one other : List Op) → slice_get all j ≡ Some other → Precedes one other qualified → OccursBefore all j one
  occurs j one other at h = used_before same_code (code_decides back) one other all j (precedes_filter (is_shared all) one other (first_uses same_code all) h) at

  first_are_shared : AreShared all (shared_among all)
  first_are_shared = record {
    distinct = apart_pairs same_code (code_decides back) (shared_among all) (shared_distinct all);
    long = All-from_recursion (λ code. 5 ≤ length code) (shared_among all) (each_weaker (λ code. is_shared all code ≡ true) (λ code. 5 ≤ length code) are_long (shared_among all) (shared_qualify all));
    twice = All-from_recursion (OccursTwice all) (shared_among all) (each_weaker (λ code. is_shared all code ≡ true) (OccursTwice all) are_twice (shared_among all) (shared_qualify all));
    few = omega (arith, length-take 510 qualified);
    order = λ k l j code other before one two at. occurs j code other at (precedes_take 510 code other qualified (precedes_at (shared_among all) k l code other before one two));
    rest = λ j code at long twice.
        let there = filter_in (is_shared all) code (first_uses same_code all) (in_first_uses same_code (code_decides back) code all (in_at all j code at)) (qualifies code long twice) in
        ⊎_elim
        (λ in'. inl (contains_in (shared_among all) code in'))
        (λ behind. inr (
          behind.0,
          All-from_recursion (OccursBefore all j) (shared_among all)
              (each_weaker (λ entry. Precedes entry code qualified) (OccursBefore all j) (λ entry h. occurs j entry code at h) (shared_among all) behind.1),
        ))
        (taken 510 code qualified there);
  }

pub shared_are_first : IsReadBack → FirstAreShared
shared_are_first back policy = first_are_shared back (conditions_in (parts_of policy))
