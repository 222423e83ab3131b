-- Codes as they occur: a code of five instructions or more goes to one table at its first occurrence, and to another at a later one.
use Rattle.std.proofs.Common.{◌≡◌, ◌∙◌, ℕ, zero, suc, ◌+◌, Bool, true, false, cond, not, ◌&&◌, ◌||◌, List}
use Rattle.std.proofs.Common.{[], ◌∷◌, ◌++◌, fold, refl, sym, ap, subst, append_assoc, arith, take, Some}
use Rattle.std.specs.Prelude.{filter, nat_le, count_by, slice_get}
use Rattle.std.specs.List.{list_any}
use Rattle.std.specs.Cmp.Lexicographic.{as_long}
use Rattle.std.proofs.lemmas.List.{append-nil}
use mathlib.Core.Bool.{true≢false}
use Rattle.std.proofs.lemmas.Bool.{le-leb, or_parts}
use Rattle.std.proofs.Math.Bool.{or-true}
use Rattle.std.proofs.lemmas.Option.{none-some}
use Rattle.std.proofs.lemmas.List.Folds.{list_any-append}
use Rattle.std.proofs.lemmas.List.Sums.{sum_by-cons}
use Rattle.ifs_base.specs.declared.op.Op.{Op}
use Rattle.ifs_gen.specs.Sharing.{same_op, same_code, firsts, is_shared, shared_among, most_shared}
use Rattle.ifs_gen.specs.inner.Keys.{same_code_laws}
use Rattle.ifs_policy.proofs.FirstUses as uses
use Rattle.ifs_gen.proofs.Among.{each_at, distinct_filter, firsts_distinct}
use Rattle.ifs_gen.proofs.Marking.{or_false}
use Rattle.ifs_gen.specs.declared.sharing.Met.{Met}
use Rattle.ifs_gen.specs.inner.Meetings.{is_long, with_code, meet, met_nothing, chosen, AreApart}

-- The codes that are the same as no entry of a table, and those that are not the same as one code.
abbrev news : List (List Op) → List (List Op) → List (List Op)
news table xs = uses.news same_code same_code_laws table xs

abbrev others : List Op → List (List Op) → List (List Op)
others x xs = uses.others same_code same_code_laws x xs

any_same : (x y : List Op) (table : List (List Op)) → same_code x y ≡ true → list_any (same_code y) table ≡ list_any (same_code x) table
any_same = uses.any_same same_code same_code_laws

-- The same codes have the same length.
same_long : (x y : List Op) → same_code x y ≡ true → is_long x ≡ is_long y
same_long x y e = ap (nat_le 5) (as_long same_op x y e)

-- The codes of a list that are long enough.
abbrev long_of : List (List Op) → List (List Op)
long_of xs = filter is_long xs

-- Two filters commute.
filter_swap : (p q : List Op → Bool) (xs : List (List Op)) → filter p (filter q xs) ≡ filter q (filter p xs)
filter_swap p q [] = refl
filter_swap p q (x ∷ xs) = by (p x) (q x) refl refl (filter_swap p q xs)
  where
    by : (b c : Bool) → p x ≡ b → q x ≡ c → filter p (filter q xs) ≡ filter q (filter p xs)
        → filter p (cond (q x) (x ∷ filter q xs) (filter q xs)) ≡ filter q (cond (p x) (x ∷ filter p xs) (filter p xs))
    by true true e f more = ap (λ c. filter p (cond c (x ∷ filter q xs) (filter q xs))) f ∙ ap (λ c. cond c (x ∷ filter p (filter q xs)) (filter p (filter q xs))) e
        ∙ ap (λ l. x ∷ l) more ∙ sym (ap (λ c. filter q (cond c (x ∷ filter p xs) (filter p xs))) e ∙ ap (λ c. cond c (x ∷ filter q (filter p xs)) (filter q (filter p xs))) f)
    by true false e f more = ap (λ c. filter p (cond c (x ∷ filter q xs) (filter q xs))) f ∙ more
        ∙ sym (ap (λ c. filter q (cond c (x ∷ filter p xs) (filter p xs))) e ∙ ap (λ c. cond c (x ∷ filter q (filter p xs)) (filter q (filter p xs))) f)
    by false true e f more = ap (λ c. filter p (cond c (x ∷ filter q xs) (filter q xs))) f ∙ ap (λ c. cond c (x ∷ filter p (filter q xs)) (filter p (filter q xs))) e
        ∙ more ∙ sym (ap (λ c. filter q (cond c (x ∷ filter p xs) (filter p xs))) e)
    by false false e f more = ap (λ c. filter p (cond c (x ∷ filter q xs) (filter q xs))) f ∙ more ∙ sym (ap (λ c. filter q (cond c (x ∷ filter p xs) (filter p xs))) e)

-- Leaving out what is the same as a short code does not change the long codes.
short_out : (x : List Op) (xs : List (List Op)) → is_long x ≡ false → long_of (others x xs) ≡ long_of xs
short_out x [] short = refl
short_out x (y ∷ ys) short = by (same_code x y) refl (short_out x ys short)
  where
    by : (b : Bool) → same_code x y ≡ b → long_of (others x ys) ≡ long_of ys
        → long_of (cond (not b) (y ∷ others x ys) (others x ys)) ≡ cond (is_long y) (y ∷ long_of ys) (long_of ys)
    by true e more = more ∙ ap (λ c. cond c (y ∷ long_of ys) (long_of ys)) (sym (sym (same_long x y e) ∙ short))
    by false e more = ap (λ xs. cond (is_long y) (y ∷ xs) xs) more

-- New codes are appended once, in order.
pub first_met : (met : Met) (xs : List (List Op)) → (fold meet met xs).once ≡ met.once ++ news met.once (long_of (firsts xs))
first_met met [] = sym (append-nil met.once)
first_met met (x ∷ xs) = by (is_long x) (list_any (same_code x) met.once) refl refl (λ m. first_met m xs)
  where
    later : List (List Op)
    later = others x (firsts xs)

    by : (l b : Bool) → is_long x ≡ l → list_any (same_code x) met.once ≡ b
        → ((m : Met) → (fold meet m xs).once ≡ m.once ++ news m.once (long_of (firsts xs)))
        → (fold meet (meet met x) xs).once ≡ met.once ++ news met.once (cond (is_long x) (x ∷ long_of later) (long_of later))
    by false b short e more =
        ap (λ c. (fold meet (cond c (cond (list_any (same_code x) met.once) (record { once = met.once; again = with_code met.again x }) (record { once = met.once ++ x ∷ []; again = met.again })) met) xs).once) short
        ∙ more met ∙ ap (λ l. met.once ++ news met.once l) (sym (short_out x (firsts xs) short))
        ∙ ap (λ c. met.once ++ news met.once (cond c (x ∷ long_of later) (long_of later))) (sym short)
    by true true long e more =
        ap (λ c. (fold meet (cond c (cond (list_any (same_code x) met.once) (record { once = met.once; again = with_code met.again x }) (record { once = met.once ++ x ∷ []; again = met.again })) met) xs).once) long
        ∙ ap (λ c. (fold meet (cond c (record { once = met.once; again = with_code met.again x }) (record { once = met.once ++ x ∷ []; again = met.again })) xs).once) e
        ∙ more (record { once = met.once; again = with_code met.again x })
        ∙ ap (λ l. met.once ++ l) (sym (uses.there_already same_code same_code_laws x met.once (long_of (firsts xs)) e) ∙ ap (news met.once) (filter_swap (λ y. not (same_code x y)) is_long (firsts xs)))
        ∙ ap (λ c. met.once ++ cond (not c) (x ∷ news met.once (long_of later)) (news met.once (long_of later))) (sym e)
        ∙ ap (λ c. met.once ++ news met.once (cond c (x ∷ long_of later) (long_of later))) (sym long)
    by true false long e more =
        ap (λ c. (fold meet (cond c (cond (list_any (same_code x) met.once) (record { once = met.once; again = with_code met.again x }) (record { once = met.once ++ x ∷ []; again = met.again })) met) xs).once) long
        ∙ ap (λ c. (fold meet (cond c (record { once = met.once; again = with_code met.again x }) (record { once = met.once ++ x ∷ []; again = met.again })) xs).once) e
        ∙ more (record { once = met.once ++ x ∷ []; again = met.again })
        ∙ append_assoc met.once (x ∷ []) (news (met.once ++ x ∷ []) (long_of (firsts xs)))
        ∙ ap (λ l. met.once ++ x ∷ l) (uses.one_more same_code same_code_laws x met.once (long_of (firsts xs)) ∙ ap (news met.once) (filter_swap (λ y. not (same_code x y)) is_long (firsts xs)))
        ∙ ap (λ c. met.once ++ cond (not c) (x ∷ news met.once (long_of later)) (news met.once (long_of later))) (sym e)
        ∙ ap (λ c. met.once ++ news met.once (cond c (x ∷ long_of later) (long_of later))) (sym long)

-- A table has a code.
abbrev pub has : List Op → List (List Op) → Bool
has x table = list_any (same_code x) table

-- A table with one more entry has its former codes and that entry.
has_last : (x y : List Op) (table : List (List Op)) (b : Bool) → same_code x y ≡ b → has x (table ++ y ∷ []) ≡ has x table || (b || false)
has_last x y table b e = list_any-append (same_code x) table (y ∷ []) ∙ ap (λ c. has x table || (c || false)) e

last_same : (x y : List Op) (table : List (List Op)) → same_code x y ≡ true → has x (table ++ y ∷ []) ≡ true
last_same x y table e = has_last x y table true e ∙ or-true (has x table)

last_other : (x y : List Op) (table : List (List Op)) → same_code x y ≡ false → has x (table ++ y ∷ []) ≡ has x table
last_other x y table e = has_last x y table false e ∙ or_false (has x table)

-- A table with one more code, if it is new, has its former codes and that code.
with_same : (x y : List Op) (table : List (List Op)) → same_code x y ≡ true → has x (with_code table y) ≡ true
with_same x y table e = by (has y table) refl
  where
    by : (b : Bool) → has y table ≡ b → has x (cond (has y table) table (table ++ y ∷ [])) ≡ true
    by true there = ap (λ c. has x (cond c table (table ++ y ∷ []))) there ∙ sym (any_same x y table e) ∙ there
    by false there = ap (λ c. has x (cond c table (table ++ y ∷ []))) there ∙ last_same x y table e

with_other : (x y : List Op) (table : List (List Op)) → same_code x y ≡ false → has x (with_code table y) ≡ has x table
with_other x y table e = by (has y table) refl
  where
    by : (b : Bool) → has y table ≡ b → has x (cond (has y table) table (table ++ y ∷ [])) ≡ has x table
    by true there = ap (λ c. has x (cond c table (table ++ y ∷ []))) there
    by false there = ap (λ c. has x (cond c table (table ++ y ∷ []))) there ∙ last_other x y table e

-- How often a code occurred, up to twice.
abbrev times : Bool → Bool → ℕ
times again once = cond again 2 (cond once 1 0)

abbrev seen : List Op → Met → ℕ
seen x met = times (has x met.again) (has x met.once)

-- The tables after a code, depending on its length and on earlier occurrences.
abbrev met_again : Met → List Op → Met
met_again met y = record { once = met.once; again = with_code met.again y }

abbrev met_first : Met → List Op → Met
met_first met y = record { once = met.once ++ y ∷ []; again = met.again }

abbrev met_by : Met → List Op → Bool → Bool → Met
met_by met y long there = cond long (cond there (met_again met y) (met_first met y)) met

-- Another code changes nothing, and the same code counts once more.
seen_other : (x y : List Op) (met : Met) (long there : Bool) → same_code x y ≡ false → seen x (met_by met y long there) ≡ seen x met
seen_other x y met true true e = ap (λ b. times b (has x met.once)) (with_other x y met.again e)
seen_other x y met true false e = ap (λ b. times (has x met.again) b) (last_other x y met.once e)
seen_other x y met false there e = refl

two_at_least : (n : ℕ) → nat_le 2 (2 + n) ≡ true
two_at_least n = le-leb 2 (2 + n) (omega arith)

seen_same : (x y : List Op) (met : Met) (n : ℕ) → same_code x y ≡ true → nat_le 2 (seen x (met_by met y true (has y met.once)) + n) ≡ nat_le 2 (seen x met + (1 + n))
seen_same x y met n e = by (has x met.again) (has x met.once) (has y met.once) refl refl refl
  where
    by : (a o h : Bool) → has x met.again ≡ a → has x met.once ≡ o → has y met.once ≡ h
        → nat_le 2 (seen x (met_by met y true (has y met.once)) + n) ≡ nat_le 2 (seen x met + (1 + n))
    by a true h a_is o_is h_is =
        ap (λ c. nat_le 2 (seen x (met_by met y true c) + n)) (any_same x y met.once e ∙ o_is)
        ∙ ap (λ c. nat_le 2 (times c (has x met.once) + n)) (with_same x y met.again e) ∙ two_at_least n
        ∙ sym (ap (λ c. nat_le 2 (times (has x met.again) c + (1 + n))) o_is ∙ more a a_is)
      where
        more : (a : Bool) → has x met.again ≡ a → nat_le 2 (times (has x met.again) true + (1 + n)) ≡ true
        more true a_is = ap (λ c. nat_le 2 (times c true + (1 + n))) a_is ∙ two_at_least (1 + n)
        more false a_is = ap (λ c. nat_le 2 (times c true + (1 + n))) a_is ∙ ap (nat_le 2) (let e : 1 + (1 + n) ≡ 2 + n = omega arith in e) ∙ two_at_least n
    by true false h a_is o_is h_is =
        ap (λ c. nat_le 2 (seen x (met_by met y true c) + n)) (any_same x y met.once e ∙ o_is)
        ∙ ap (λ c. nat_le 2 (times c (has x (met.once ++ y ∷ [])) + n)) a_is ∙ two_at_least n
        ∙ sym (ap (λ c. nat_le 2 (times c (has x met.once) + (1 + n))) a_is ∙ two_at_least (1 + n))
    by false false h a_is o_is h_is =
        ap (λ c. nat_le 2 (seen x (met_by met y true c) + n)) (any_same x y met.once e ∙ o_is)
        ∙ ap (λ c. nat_le 2 (times c (has x (met.once ++ y ∷ [])) + n)) a_is
        ∙ ap (λ c. nat_le 2 (times false c + n)) (last_same x y met.once e)
        ∙ ap (nat_le 2) (let same : 1 + n ≡ 0 + (1 + n) = omega arith in same)
        ∙ sym (ap (λ c. nat_le 2 (times c (has x met.once) + (1 + n))) a_is ∙ ap (λ c. nat_le 2 (times false c + (1 + n))) o_is)

-- A long code occurred again if it occurred twice.
pub met_twice : (x : List Op) (met : Met) (xs : List (List Op)) → is_long x ≡ true → has x (fold meet met xs).again ≡ nat_le 2 (seen x met + count_by (same_code x) xs)
met_twice x met [] long = by (has x met.again) (has x met.once) refl refl
  where
    by : (a o : Bool) → has x met.again ≡ a → has x met.once ≡ o → has x met.again ≡ nat_le 2 (seen x met + 0)
    by true o a_is o_is = a_is ∙ sym (ap (λ c. nat_le 2 (times c (has x met.once) + 0)) a_is)
    by false true a_is o_is = a_is ∙ sym (ap (λ c. nat_le 2 (times c (has x met.once) + 0)) a_is ∙ ap (λ c. nat_le 2 (times false c + 0)) o_is)
    by false false a_is o_is = a_is ∙ sym (ap (λ c. nat_le 2 (times c (has x met.once) + 0)) a_is ∙ ap (λ c. nat_le 2 (times false c + 0)) o_is)
met_twice x met (y ∷ xs) long = by (same_code x y) refl (met_twice x (meet met y) xs long)
  where
    more : ℕ
    more = count_by (same_code x) xs

    counted : (b : Bool) → same_code x y ≡ b → cond b 1 0 + more ≡ count_by (same_code x) (y ∷ xs)
    counted b e = ap (λ c. cond c 1 0 + more) (sym e) ∙ sym (sum_by-cons (λ (z : List Op). cond (same_code x z) 1 0) y xs)

    by : (b : Bool) → same_code x y ≡ b → has x (fold meet (meet met y) xs).again ≡ nat_le 2 (seen x (meet met y) + more)
        → has x (fold meet (meet met y) xs).again ≡ nat_le 2 (seen x met + count_by (same_code x) (y ∷ xs))
    by true e step =
        step ∙ ap (λ c. nat_le 2 (seen x (met_by met y c (has y met.once)) + more)) (sym (same_long x y e) ∙ long)
        ∙ seen_same x y met more e ∙ ap (λ n. nat_le 2 (seen x met + n)) (counted true e)
    by false e step =
        step ∙ ap (λ n. nat_le 2 (n + more)) (seen_other x y met (is_long y) (has y met.once) e)
        ∙ ap (λ n. nat_le 2 (seen x met + n)) ((let same : more ≡ 0 + more = omega arith in same) ∙ counted false e)

-- The first table has the distinct long codes.
once_is : (all : List (List Op)) → (fold meet met_nothing all).once ≡ long_of (firsts all)
once_is all = first_met met_nothing all ∙ uses.all_new same_code same_code_laws (long_of (firsts all))

-- The long codes that occurred again are the shared ones.
shared_are : (all xs : List (List Op)) → filter (λ code. has code (fold meet met_nothing all).again) (long_of xs) ≡ filter (is_shared all) xs
shared_are all [] = refl
shared_are all (x ∷ xs) = by (is_long x) refl (shared_are all xs)
  where
    test : List Op → Bool
    test code = has code (fold meet met_nothing all).again

    by : (b : Bool) → is_long x ≡ b → filter test (long_of xs) ≡ filter (is_shared all) xs
        → filter test (cond (is_long x) (x ∷ long_of xs) (long_of xs)) ≡ cond (is_shared all x) (x ∷ filter (is_shared all) xs) (filter (is_shared all) xs)
    by true e more =
        ap (λ c. filter test (cond c (x ∷ long_of xs) (long_of xs))) e
        ∙ ap (λ c. cond c (x ∷ filter test (long_of xs)) (filter test (long_of xs))) (met_twice x met_nothing all e ∙ ap (nat_le 2) (let same : 0 + count_by (same_code x) all ≡ count_by (same_code x) all = omega arith in same))
        ∙ ap (λ l. cond (nat_le 2 (count_by (same_code x) all)) (x ∷ l) l) more
        ∙ ap (λ c. cond (c && nat_le 2 (count_by (same_code x) all)) (x ∷ filter (is_shared all) xs) (filter (is_shared all) xs)) (sym e)
    by false e more =
        ap (λ c. filter test (cond c (x ∷ long_of xs) (long_of xs))) e ∙ more
        ∙ ap (λ c. cond (c && nat_le 2 (count_by (same_code x) all)) (x ∷ filter (is_shared all) xs) (filter (is_shared all) xs)) (sym e)

-- The chosen codes are the shared ones.
pub chosen_is : (all : List (List Op)) → chosen (fold meet met_nothing all) ≡ shared_among all
chosen_is all =
    ap (λ xs. take most_shared (filter (λ code. has code (fold meet met_nothing all).again) xs)) (once_is all)
    ∙ ap (take most_shared) (shared_are all (firsts all))

-- A code that is not in a list is not in the filtered list.
none_left : (x : List Op) (p : List Op → Bool) (xs : List (List Op)) → has x xs ≡ false → has x (filter p xs) ≡ false
none_left x p [] none = refl
none_left x p (y ∷ ys) none = by (same_code x y) (p y) refl refl none (none_left x p ys)
  where
    by : (b c : Bool) → same_code x y ≡ b → p y ≡ c → (same_code x y || has x ys) ≡ false → (has x ys ≡ false → has x (filter p ys) ≡ false)
        → has x (cond (p y) (y ∷ filter p ys) (filter p ys)) ≡ false
    by true c e f off more = absurd (true≢false (sym (ap (λ d. d || has x ys) e) ∙ off))
    by false true e f off more = ap (λ d. has x (cond d (y ∷ filter p ys) (filter p ys))) f ∙ ap (λ d. d || has x (filter p ys)) e ∙ more (sym (ap (λ d. d || has x ys) e) ∙ off)
    by false false e f off more = ap (λ d. has x (cond d (y ∷ filter p ys) (filter p ys))) f ∙ more (sym (ap (λ d. d || has x ys) e) ∙ off)

-- No two codes of the first table are the same.
pub once_apart : (all : List (List Op)) → AreApart same_code (fold meet met_nothing all).once
once_apart all = subst (AreApart same_code) (sym (once_is all)) (distinct_filter same_code is_long (firsts all) (firsts_distinct all))

-- No earlier entry is the same code.
pub none_before : (xs : List (List Op)) (i : ℕ) (x : List Op) → AreApart same_code xs → slice_get xs i ≡ Some x → has x (take i xs) ≡ false
none_before [] i x apart at = absurd (none-some x at)
none_before (y ∷ ys) zero x apart at = refl
none_before (y ∷ ys) (suc i) x apart at =
    ap (λ c. c || has x (take i ys)) (same_code_laws.symm x y ∙ each_at (λ other. same_code y other ≡ false) ys i x apart.0 at) ∙ none_before ys i x apart.1 at

-- A code that is not in a list is not in a front of the filtered list.
pub none_kept : (x : List Op) (p : List Op → Bool) (n : ℕ) (xs : List (List Op)) → has x xs ≡ false → has x (take n (filter p xs)) ≡ false
none_kept x p n xs none = none_taken n (filter p xs) (none_left x p xs none)
  where
    none_taken : (n : ℕ) (xs : List (List Op)) → has x xs ≡ false → has x (take n xs) ≡ false
    none_taken zero [] none = refl
    none_taken zero (y ∷ ys) none = refl
    none_taken (suc n) [] none = refl
    none_taken (suc n) (y ∷ ys) none =
        let parts = or_parts (same_code x y) (has x ys) none in ap (λ c. c || has x (take n ys)) parts.0 ∙ none_taken n ys parts.1
