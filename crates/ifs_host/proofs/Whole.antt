-- Reading up to a limit that is not exceeded.
use Rattle.std.proofs.Common.{ℕ, ◌<◌, ◌≡◌, ◌++◌, List, [], length, take, Option}
use Rattle.std.proofs.Common.{Some, None, IfSome, option_map, ◌∙◌, subst, arith}
use Rattle.std.proofs.lemmas.List.{take_all, length-take-le}

-- If fewer bytes than the limit were read, all bytes were read.
pub all_taken : (limit : ℕ) (left : List ℕ) → length (take limit left) < limit → take limit left ≡ left
all_taken limit left fewer = take_all limit left (grind (arith, length-take-le limit left))

-- The same for a reader whose bytes are known.
of_known : (limit : ℕ) (known : Option (List ℕ)) (bytes : List ℕ) → length bytes < limit
    → IfSome (option_map (take limit) known) (λ taken. bytes ≡ [] ++ taken)
    → IfSome known (λ left. bytes ≡ left)
of_known limit None bytes fewer taken = tt
of_known limit (Some left) bytes fewer taken =
    let P : List ℕ → Type 0 = λ xs. length xs < limit in
    taken ∙ all_taken limit left (subst P taken fewer)

-- The bytes read up to the limit are all that the reader had left, if these are known.
pub whole : (limit : ℕ) (known up_to : Option (List ℕ)) (before bytes : List ℕ)
    → up_to ≡ option_map (take limit) known → before ≡ [] → length bytes < limit
    → IfSome up_to (λ taken. bytes ≡ before ++ taken)
    → IfSome known (λ left. bytes ≡ left)
whole limit known up_to before bytes cut empty fewer read =
    let P : Option (List ℕ) → Type 0 = λ o. IfSome o (λ taken. bytes ≡ before ++ taken) in
    let Q : List ℕ → Type 0 = λ xs. IfSome (option_map (take limit) known) (λ taken. bytes ≡ xs ++ taken) in
    of_known limit known bytes fewer (subst Q empty (subst P cut read))
