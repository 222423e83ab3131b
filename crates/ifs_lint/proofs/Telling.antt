-- What is made of values and their numbers, one after the other.
use Rattle.std.proofs.Common.{◌≡◌, ℕ, suc, ◌+◌, ◌<◌, ◌≤◌, List, [], ◌∷◌, ◌++◌, take, get_or, length, append_assoc, sym, ap, ◌∙◌, arith}
use Rattle.std.proofs.Math.Seq.{take-length}
use Rattle.std.proofs.lemmas.List.{append-nil, length-take-le, take_more}
use Rattle.ifs_lint.specs.Naming.{numbered}

numbered_append : {X Y : Type 0} (made : ℕ → X → List Y) (first : ℕ) (xs ys : List X) → numbered made first (xs ++ ys) ≡ numbered made first xs ++ numbered made (first + length xs) ys
numbered_append made first [] ys = let e : first ≡ first + 0 = omega arith in ap (λ k. numbered made k ys) e
numbered_append made first (x ∷ xs) ys =
    let e : first + 1 + length xs ≡ first + suc (length xs) = omega arith in
    ap (λ zs. made first x ++ zs) (numbered_append made (first + 1) xs ys ∙ ap (λ k. numbered made (first + 1) xs ++ numbered made k ys) e)
    ∙ sym (append_assoc (made first x) (numbered made (first + 1) xs) (numbered made (first + suc (length xs)) ys))

-- That of one more value.
pub one_more : {X Y : Type 0} (made : ℕ → X → List Y) (xs : List X) (i : ℕ) (d : X) (told more : List Y) → i < length xs → told ≡ numbered made 0 (take i xs) → more ≡ told ++ made i (get_or xs i d)
    → more ≡ numbered made 0 (take (i + 1) xs)
one_more made xs i d told more lt told_is more_is =
    let many : length (take i xs) ≡ i = length-take-le i xs (omega (arith, lt)) in
    let here : 0 + length (take i xs) ≡ i = omega (arith, many) in
    more_is ∙ ap (λ ys. ys ++ made i (get_or xs i d)) told_is
    ∙ ap (λ ys. numbered made 0 (take i xs) ++ ys) (ap (λ k. made k (get_or xs i d)) (sym here) ∙ sym (append-nil (made (0 + length (take i xs)) (get_or xs i d))))
    ∙ sym (ap (numbered made 0) (take_more xs i d lt) ∙ numbered_append made 0 (take i xs) (get_or xs i d ∷ []))

-- That of all.
pub all_told : {X Y : Type 0} (made : ℕ → X → List Y) (xs : List X) (i : ℕ) (told : List Y) → (i < length xs → ⊥) → i ≤ length xs → told ≡ numbered made 0 (take i xs) → told ≡ numbered made 0 xs
all_told made xs i told past le told_is =
    let p : i < length xs → ⊥ = past in
    let end : i ≡ length xs = omega (arith, p, le) in
    told_is ∙ ap (numbered made 0) (ap (λ k. take k xs) end ∙ take-length xs)
