-- The marks of lists of tests, and the tests that marks list.
use Rattle.std.proofs.Common.{◌≡◌, ℕ, zero, suc, ◌+◌, ◌<◌, ◌⊎◌, ⊎_elim, Bool, true, false, List, []}
use Rattle.std.proofs.Common.{◌∷◌, ◌++◌, Some, refl, sym, ap, ◌∙◌, arith, get_or}
use Rattle.std.specs.Prelude.{◌||◌, ◌==◌, if◌then◌else◌, replicate, slice_get, slice_set}
use Rattle.std.proofs.lemmas.Bool.{cases_eq, eq-eqb, ne_eqb}
use Rattle.std.specs.List.{list_any}
use Rattle.std.proofs.lemmas.Option.{none-some, get_or_from_slice_get}
use Rattle.ifs_base.specs.declared.ids.TestId.{TestId}
use Rattle.ifs_gen.specs.inner.Marks.{with_marks, test_where}
use Rattle.ifs_gen.specs.PlainCode.{tests_below}

pub marked_append : (marks : List Bool) (xs ys : List TestId) → with_marks marks (xs ++ ys) ≡ with_marks (with_marks marks xs) ys
marked_append marks [] ys = refl
marked_append marks (x ∷ xs) ys = marked_append (slice_set marks x.0 true) xs ys

-- A place is marked if it was marked, or if its test is in the list.
set_here : (marks : List Bool) (k : ℕ) (b : Bool) → slice_get marks k ≡ Some b → slice_get (slice_set marks k true) k ≡ Some true
set_here [] k b e = absurd (none-some b e)
set_here (x ∷ marks) zero b e = refl
set_here (x ∷ marks) (suc k) b e = set_here marks k b e

set_other : (marks : List Bool) (i k : ℕ) → (i ≡ k → ⊥) → slice_get (slice_set marks i true) k ≡ slice_get marks k
set_other [] i k apart = refl
set_other (x ∷ marks) zero zero apart = absurd (apart refl)
set_other (x ∷ marks) zero (suc k) apart = refl
set_other (x ∷ marks) (suc i) zero apart = refl
set_other (x ∷ marks) (suc i) (suc k) apart = set_other marks i k (λ e. apart (ap suc e))

set_same : (marks : List Bool) (i k : ℕ) (b : Bool) → slice_get marks k ≡ Some b → slice_get (slice_set marks i true) k ≡ Some (i == k || b)
set_same marks i k b e =
    ⊎_elim
    (λ same. ap (λ n. slice_get (slice_set marks n true) k) same ∙ set_here marks k b e ∙ ap (λ c. Some (c || b)) (sym (eq-eqb i k same)))
    (λ apart. set_other marks i k apart ∙ e ∙ ap (λ c. Some (c || b)) (sym (ne_eqb i k apart)))
    (cases_eq i k)

or_assoc : (a b c : Bool) → (b || (a || c)) ≡ ((a || b) || c)
or_assoc true true c = refl
or_assoc true false c = refl
or_assoc false b c = refl

pub mark_at : (marks : List Bool) (xs : List TestId) (k : ℕ) (b : Bool) → slice_get marks k ≡ Some b → slice_get (with_marks marks xs) k ≡ Some (list_any (λ test. test.0 == k) xs || b)
mark_at marks [] k b e = e
mark_at marks (x ∷ xs) k b e =
    mark_at (slice_set marks x.0 true) xs k (x.0 == k || b) (set_same marks x.0 k b e)
    ∙ ap (λ c. Some c) (or_assoc (x.0 == k) (list_any (λ test. test.0 == k) xs) b)

where_is : (b : Bool) (k : ℕ) → test_where b k ≡ (if b then record { 0 = k } ∷ [] else [])
where_is true k = refl
where_is false k = refl

-- The tests below the next number.
pub below_next : (xs : List TestId) (index : ℕ) (now next : List TestId) (mark : Bool) → now ≡ tests_below index xs → next ≡ now ++ test_where mark index
    → mark ≡ list_any (λ test. test.0 == index) xs → next ≡ tests_below (index + 1) xs
below_next xs index now next mark now_is next_is mark_is =
    let one : suc index ≡ index + 1 = omega arith in
    next_is ∙ ap (λ l. l ++ test_where mark index) now_is ∙ ap (λ b. tests_below index xs ++ test_where b index) mark_is
    ∙ ap (λ l. tests_below index xs ++ l) (where_is (list_any (λ test. test.0 == index) xs) index) ∙ ap (λ n. tests_below n xs) one

replicate_at : (n k : ℕ) → k < n → slice_get (replicate n false) k ≡ Some false
replicate_at zero k lt = absurd (omega arith)
replicate_at (suc n) zero lt = refl
replicate_at (suc n) (suc k) lt = replicate_at n k (omega arith)

pub or_false : (b : Bool) → (b || false) ≡ b
or_false true = refl
or_false false = refl

-- Starting without marks, the mark of an index says whether its test is in the list.
pub mark_is : (n k : ℕ) (marks : List Bool) (xs : List TestId) → k < n → marks ≡ with_marks (replicate n false) xs → get_or marks k false ≡ list_any (λ test. test.0 == k) xs
mark_is n k marks xs lt e =
    let found = list_any (λ (test : TestId). test.0 == k) xs in
    ap (λ m. get_or m k false) e
    ∙ get_or_from_slice_get (with_marks (replicate n false) xs) k (found || false) false (mark_at (replicate n false) xs k false (replicate_at n k lt)) ∙ or_false found
