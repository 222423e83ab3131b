-- Lists that a loop makes from tests and their indexes.
use Rattle.std.proofs.Common.{◌≡◌, Bool, false, ◌||◌, ℕ, ◌+◌, ◌<◌, List, [], ◌∷◌, ◌++◌, Option, length}
use Rattle.std.proofs.Common.{get_or, set, take, drop, map, ap, sym, ◌∙◌, arith, append-nil, append_assoc}
use Rattle.std.specs.List.{enumerate_from, filter_map, cons_option, list_any, refill}
use Rattle.std.proofs.lemmas.List.{map_push, take_more, drop_more, set_at, get_or_at, length-take-le}
use Rattle.std.proofs.lemmas.List.{length-map, take_all, drop_all, set-get_or, get_or_default}
use Rattle.std.proofs.lemmas.List.FromFn.{length-enumerate_from}
use Rattle.std.proofs.lemmas.List.Folds.{list_any-append}
use Rattle.std.proofs.lemmas.List.Elements.{filter_map-append}
use Rattle.ifs_sched.specs.declared.start.Start.{Start}
use Rattle.ifs_sched.specs.declared.timer.Timer.{Timer}
use Rattle.ifs_sched.specs.Schedule.{map_by_index, collect_by_index, any_by_index}

-- One more element has the next index.
enumerate_from-push : {X : Type 0} (n : ℕ) (xs : List X) (x : X)
    → enumerate_from n (xs ++ x ∷ []) ≡ enumerate_from n xs ++ (n + length xs, x) ∷ []
enumerate_from-push n [] x = let e : n ≡ n + 0 = omega arith in ap (λ k. (k, x) ∷ []) e
enumerate_from-push n (y ∷ ys) x =
    let e : n + 1 + length ys ≡ n + length (y ∷ ys) = omega arith in
    ap (λ r. (n, y) ∷ r) (enumerate_from-push (n + 1) ys x ∙ ap (λ k. enumerate_from (n + 1) ys ++ (k, x) ∷ []) e)

pub map_enumerated-push : {X Y : Type 0} (f : ℕ × X → Y) (xs : List X) (x : X)
    → map f (enumerate_from 0 (xs ++ x ∷ [])) ≡ map f (enumerate_from 0 xs) ++ f (length xs, x) ∷ []
map_enumerated-push f xs x =
    ap (map f) (enumerate_from-push 0 xs x) ∙ map_push f (enumerate_from 0 xs) (0 + length xs, x)
    ∙ (let e : 0 + length xs ≡ length xs = omega arith in ap (λ k. map f (enumerate_from 0 xs) ++ f (k, x) ∷ []) e)

-- One more test is changed by index.
pub map_by_index-push : (f : ℕ → Timer → Timer) (xs : List Timer) (x : Timer)
    → map_by_index f (xs ++ x ∷ []) ≡ map_by_index f xs ++ f (length xs) x ∷ []
map_by_index-push f xs x = map_enumerated-push (λ p. f p.0 p.1) xs x

-- One more test gives a start, or none.
pub collect_by_index-push : (f : ℕ → Timer → Option Start) (xs : List Timer) (x : Timer)
    → collect_by_index f (xs ++ x ∷ []) ≡ collect_by_index f xs ++ cons_option (f (length xs) x) []
collect_by_index-push f xs x =
    ap (filter_map (λ p. f p.0 p.1)) (enumerate_from-push 0 xs x)
    ∙ filter_map-append (λ p. f p.0 p.1) (enumerate_from 0 xs) ((0 + length xs, x) ∷ [])
    ∙ (let e : 0 + length xs ≡ length xs = omega arith in ap (λ k. collect_by_index f xs ++ cons_option (f k x) []) e)

-- A change by index keeps the number of tests.
pub as_many_by_index : (f : ℕ → Timer → Timer) (xs : List Timer) → length (map_by_index f xs) ≡ length xs
as_many_by_index f xs = length-map (enumerate_from 0 xs) (λ p. f p.0 p.1) ∙ length-enumerate_from 0 xs

-- Tests whose first i are changed.
abbrev pub changed_below : (ℕ → Timer → Timer) → ℕ → List Timer → List Timer
changed_below f i xs = map_by_index f (take i xs) ++ drop i xs

module _ (f : ℕ → Timer → Timer) (xs : List Timer) (i : ℕ) (x : Timer) (within : i < length xs) (at : get_or xs i x ≡ x) where
  front : length (map_by_index f (take i xs)) ≡ i
  front = as_many_by_index f (take i xs) ∙ length-take-le i xs (omega arith)

  here : changed_below f i xs ≡ map_by_index f (take i xs) ++ x ∷ drop (i + 1) xs
  here = ap (λ r. map_by_index f (take i xs) ++ r) (drop_more xs i x within ∙ ap (λ y. y ∷ drop (i + 1) xs) at)

  next : changed_below f (i + 1) xs ≡ map_by_index f (take i xs) ++ f i x ∷ drop (i + 1) xs
  next =
      ap (λ r. map_by_index f r ++ drop (i + 1) xs) (take_more xs i x within ∙ ap (λ y. take i xs ++ y ∷ []) at)
      ∙ ap (λ r. r ++ drop (i + 1) xs) (map_by_index-push f (take i xs) x)
      ∙ ap (λ k. map_by_index f (take i xs) ++ f k x ∷ [] ++ drop (i + 1) xs) (length-take-le i xs (omega arith))
      ∙ append_assoc (map_by_index f (take i xs)) (f i x ∷ []) (drop (i + 1) xs)

module _ (f : ℕ → Timer → Timer) (xs ys : List Timer) (i : ℕ) (d : Timer) (so : ys ≡ changed_below f i xs) (within : i < length xs) where
  -- The test at i is unchanged.
  pub changed_below-read : get_or ys i d ≡ get_or xs i d
  changed_below-read =
      let x = get_or xs i d in
      let at = get_or_default xs i x d within in
      ap (λ r. get_or r i d) (so ∙ here f xs i x within at)
      ∙ get_or_at (map_by_index f (take i xs)) x (drop (i + 1) xs) d i (front f xs i x within at)

  -- The test at i is changed.
  pub changed_below-more : (y : Timer) → y ≡ f i (get_or ys i d) → set ys i y ≡ changed_below f (i + 1) xs
  changed_below-more y e =
      let x = get_or xs i d in
      let at = get_or_default xs i x d within in
      let new = e ∙ ap (f i) changed_below-read in
      ap (λ r. set r i y) (so ∙ here f xs i x within at)
      ∙ set_at (map_by_index f (take i xs)) x (drop (i + 1) xs) y i (front f xs i x within at)
      ∙ ap (λ r. map_by_index f (take i xs) ++ r ∷ drop (i + 1) xs) new
      ∙ sym (next f xs i x within at)

  -- The test at i stays as it is.
  pub changed_below-same : f i (get_or ys i d) ≡ get_or ys i d → ys ≡ changed_below f (i + 1) xs
  changed_below-same e = sym (set-get_or ys i d) ∙ changed_below-more (get_or ys i d) (sym e)

-- All tests are changed.
pub changed_below-all : (f : ℕ → Timer → Timer) (xs : List Timer) (n : ℕ) → length xs ≡ n
    → changed_below f n xs ≡ map_by_index f xs
changed_below-all f xs n e =
    ap (λ r. map_by_index f r ++ drop n xs) (take_all n xs (omega arith))
    ∙ ap (λ r. map_by_index f xs ++ r) (drop_all n xs (omega arith))
    ∙ append-nil (map_by_index f xs)

-- The starts of the tests up to i and of the test at i.
pub collect_by_index-more : (f : ℕ → Timer → Option Start) (xs : List Timer) (i : ℕ) (d : Timer) → i < length xs
    → collect_by_index f (take (i + 1) xs) ≡ collect_by_index f (take i xs) ++ cons_option (f i (get_or xs i d)) []
collect_by_index-more f xs i d within =
    ap (collect_by_index f) (take_more xs i d within)
    ∙ collect_by_index-push f (take i xs) (get_or xs i d)
    ∙ ap (λ k. collect_by_index f (take i xs) ++ cons_option (f k (get_or xs i d)) []) (length-take-le i xs (omega arith))

-- A condition by index, of the tests up to i and of the test at i.
pub any_by_index-more : (f : ℕ → Timer → Bool) (xs : List Timer) (i : ℕ) (d : Timer) → i < length xs
    → any_by_index f (take (i + 1) xs) ≡ (any_by_index f (take i xs) || (f i (get_or xs i d) || false))
any_by_index-more f xs i d within =
    let front = length-take-le i xs (omega arith) in
    let e : 0 + length (take i xs) ≡ i = omega arith in
    ap (any_by_index f) (take_more xs i d within)
    ∙ ap (list_any (λ p. f p.0 p.1)) (enumerate_from-push 0 (take i xs) (get_or xs i d))
    ∙ list_any-append (λ p. f p.0 p.1) (enumerate_from 0 (take i xs)) ((0 + length (take i xs), get_or xs i d) ∷ [])
    ∙ ap (λ k. any_by_index f (take i xs) || (f k (get_or xs i d) || false)) e

-- A change of as many tests as there are changes them all.
pub refilled : (xs ys : List Timer) → length ys ≡ length xs → refill (length xs) xs ys ≡ ys
refilled xs ys e =
    ap (λ rest. take (length xs) (ys ++ rest)) (drop_all (length ys) xs (omega arith))
    ∙ ap (take (length xs)) (append-nil ys)
    ∙ take_all (length xs) ys (omega arith)
