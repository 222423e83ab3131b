-- The first entries of a table, with one more.
use Rattle.std.proofs.Common.{◌≡◌, ℕ, zero, suc, ◌+◌, ◌<◌, List, [], ◌∷◌, ◌++◌, Some, length, map, take, ap, ◌∙◌, refl, arith}
use Rattle.std.specs.Prelude.{slice_get, option_map}

-- The next index, as loops write it.
pub after_suc : (i : ℕ) → suc i + 1 ≡ suc (i + 1)
after_suc i = omega arith

pub entry_more : {X Y : Type 0} (f : X → Y) (xs : List X) (i : ℕ) (y : Y) → option_map f (slice_get xs i) ≡ Some y → map f (take (i + 1) xs) ≡ map f (take i xs) ++ y ∷ []
entry_more f [] i y e = absurd cc
entry_more {X} {Y} f (x ∷ xs) zero y e = let same : f x ≡ y = cc in ap (λ (z : Y). z ∷ []) same
entry_more f (x ∷ xs) (suc i) y e = ap (λ (k : ℕ). map f (take k (x ∷ xs))) (after_suc i) ∙ ap (λ ys. f x ∷ ys) (entry_more f xs i y e)

pub constant_more : {X Y : Type 0} (y : Y) (xs : List X) (i : ℕ) → i < length xs → map (λ _. y) (take (i + 1) xs) ≡ map (λ _. y) (take i xs) ++ y ∷ []
constant_more y [] i lt = absurd (omega arith)
constant_more y (x ∷ xs) zero lt = refl
constant_more {X} y (x ∷ xs) (suc i) lt = ap (λ (k : ℕ). map (λ (_ : X). y) (take k (x ∷ xs))) (after_suc i) ∙ ap (λ ys. y ∷ ys) (constant_more y xs i (omega arith))

pub constants_more : {X Y Z : Type 0} (z : Z) (f : X → Y) (xs : List X) (i : ℕ) → i < length xs → map (λ _. z) (map f (take (i + 1) xs)) ≡ map (λ _. z) (map f (take i xs)) ++ z ∷ []
constants_more z f [] i lt = absurd (omega arith)
constants_more z f (x ∷ xs) zero lt = refl
constants_more {X} {Y} z f (x ∷ xs) (suc i) lt = ap (λ (k : ℕ). map (λ (_ : Y). z) (map f (take k (x ∷ xs)))) (after_suc i) ∙ ap (λ zs. z ∷ zs) (constants_more z f xs i (omega arith))
