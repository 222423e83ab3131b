-- The values of tests after an entry, with one more test.
use Rattle.std.proofs.Common.{◌≡◌, ℕ, ◌+◌, Bool, List, [], ◌∷◌, ◌++◌, Option}
use Rattle.std.proofs.Common.{length, get_or, take, ◌<◌, ap, sym, ◌∙◌, arith}
use Rattle.std.specs.List.{enumerate_from}
use Rattle.std.proofs.lemmas.List.{length-map, length-take-le, take_more}
use Rattle.std.proofs.lemmas.List.FromFn.{length-enumerate_from}
use Rattle.ifs_sched.proofs.ByIndex.{map_enumerated-push}
use Rattle.ifs_core.specs.Event.{kept_value, kept_values}

-- One more value is kept if its test is in the always set.
pub kept_values-push : (always : ℕ) (xs : List (Option Bool)) (x : Option Bool)
    → kept_values always (xs ++ x ∷ []) ≡ kept_values always xs ++ kept_value always (length xs) x ∷ []
kept_values-push always xs x = map_enumerated-push (λ entry. kept_value always entry.0 entry.1) xs x

-- The values of one more test of a table.
pub kept_values-more : (always i : ℕ) (xs : List (Option Bool)) (x : Option Bool) → i < length xs → get_or xs i x ≡ x
    → kept_values always (take i xs) ++ kept_value always i x ∷ [] ≡ kept_values always (take (i + 1) xs)
kept_values-more always i xs x within at =
    let front : length (take i xs) ≡ i = length-take-le i xs (omega arith) in
    ap (λ k. kept_values always (take i xs) ++ kept_value always k x ∷ []) (sym front)
    ∙ sym (ap (kept_values always) (take_more xs i x within ∙ ap (λ y. take i xs ++ y ∷ []) at) ∙ kept_values-push always (take i xs) x)

-- An entry keeps the number of values.
pub length-kept_values : (always : ℕ) (xs : List (Option Bool)) → length (kept_values always xs) ≡ length xs
length-kept_values always xs = length-map (enumerate_from 0 xs) (λ entry. kept_value always entry.0 entry.1) ∙ length-enumerate_from 0 xs
