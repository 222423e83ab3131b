-- A loop that writes the entries of a table.
use Rattle.std.proofs.Common.{◌≡◌, ℕ, ◌+◌, ◌<◌, ◌≤◌, List, [], ◌∷◌, ◌++◌, length}
use Rattle.std.proofs.Common.{get_or, take, sym, ap, subst, ◌∙◌, append_assoc, All}
use Rattle.std.specs.List.{flat_map}
use Rattle.std.proofs.lemmas.List.{append-nil, take_more, take_all}
use Rattle.std.proofs.lemmas.List.Concat.{flat_map-append}
use Rattle.std.proofs.lemmas.List.Elements.{All-push}

pub bytes_more : {X : Type 0} (text : X → List ℕ) (xs : List X) (i : ℕ) (x : X) (old now new : List ℕ) → i < length xs → x ≡ get_or xs i x → now ≡ old ++ flat_map text (take i xs) → new ≡ now ++ text x → new ≡ old ++ flat_map text (take (i + 1) xs)
bytes_more {X} text xs i x old now new lt at before put =
    let front = flat_map text (take i xs) in
    let next : take (i + 1) xs ≡ take i xs ++ x ∷ [] = take_more xs i x lt ∙ ap (λ (y : X). take i xs ++ y ∷ []) (sym at) in
    let all : flat_map text (take (i + 1) xs) ≡ front ++ text x = ap (flat_map text) next ∙ flat_map-append text (take i xs) (x ∷ []) ∙ ap (λ (t : List ℕ). front ++ t) (append-nil (text x)) in
    put ∙ ap (λ (t : List ℕ). t ++ text x) before ∙ append_assoc old front (text x) ∙ ap (λ (t : List ℕ). old ++ t) (sym all)

pub facts_more : {X : Type 0} (P : X → Type 0) (xs : List X) (i : ℕ) (x : X) → i < length xs → x ≡ get_or xs i x → All P (take i xs) → P x → All P (take (i + 1) xs)
facts_more {X} P xs i x lt at before here =
    let next : take (i + 1) xs ≡ take i xs ++ x ∷ [] = take_more xs i x lt ∙ ap (λ (y : X). take i xs ++ y ∷ []) (sym at) in
    subst (λ (ys : List X). All P ys) (sym next) (All-push P (take i xs) x before here)

pub facts_all : {X : Type 0} (P : X → Type 0) (xs : List X) (i : ℕ) → length xs ≤ i → All P (take i xs) → All P xs
facts_all {X} P xs i le all = subst (λ (ys : List X). All P ys) (take_all i xs le) all
