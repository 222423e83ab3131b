-- Names at their places in tables.
use Rattle.std.proofs.Common.{◌≡◌, ◌∙◌, sym, ap, ℕ, Bool, true, false, cond, nat_lt, List, [], length, get_or, Some, None}
use Rattle.std.specs.List.{position, position_or_len, slice_get}
use Rattle.std.proofs.lemmas.List.Quantifiers.{position-Some}
use Rattle.std.proofs.lemmas.Option.{slice_get-get_or}
use Rattle.std.proofs.lemmas.Slice.Eq.{bytes_eq-Decides}
use Rattle.ifs_policy.specs.Tables.{text_eq}

-- The entry at the place of a text is this text.
pub there : (name : List ℕ) (xs : List (List ℕ)) (place number : ℕ) → Some place ≡ position (text_eq name) xs → number ≡ place → slice_get xs number ≡ Some name
there name xs place number e same =
    let at = position-Some (text_eq name) xs place [] (sym e) in
    let is : name ≡ get_or xs place [] = (bytes_eq-Decides name (get_or xs place [])).0 at.1 in
    ap (λ (n : ℕ). slice_get xs n) same ∙ slice_get-get_or xs place [] at.0 ∙ ap (λ (x : List ℕ). Some x) (sym is)

place_by : {X : Type 0} (xs : List X) (at place : ℕ) (b : Bool) → Some place ≡ cond b (Some at) None → place ≡ at
place_by xs at place true e = cc
place_by xs at place false e = absurd (cc)

-- The place of an entry, where there is one.
pub is_place : {X : Type 0} (p : X → Bool) (xs : List X) (place number : ℕ) → Some place ≡ position p xs → number ≡ place → number ≡ position_or_len p xs
is_place p xs place number e same = same ∙ place_by xs (position_or_len p xs) place (nat_lt (position_or_len p xs) (length xs)) e
