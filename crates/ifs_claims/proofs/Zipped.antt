-- Two lists place by place.
use Rattle.std.proofs.Common.{◌≡◌, ℕ, zero, suc, ◌+◌, ◌<◌, List, [], ◌∷◌, ◌++◌, length, get_or, take, Some, None, refl, sym, subst}
use Rattle.std.specs.Prelude.{slice_get}
use Rattle.std.specs.List.{AllZip}
use Rattle.std.proofs.lemmas.List.{take_more}
use Rattle.std.proofs.lemmas.Option.{none-some, same_Some}
use Rattle.ifs_solver.proofs.Adding.{zip_push}

pub zip_at : {A B : Type 0} (R : A → B → Type 0) (xs : List A) (ys : List B) (k : ℕ) (x : A) (y : B) → AllZip R xs ys → slice_get xs k ≡ Some x → slice_get ys k ≡ Some y → R x y
zip_at R [] ys k x y h e f = absurd (none-some x e)
zip_at R (a ∷ xs) [] k x y h e f = absurd h
zip_at {B} R (a ∷ xs) (c ∷ ys) zero x y h e f = subst (λ (z : B). R x z) (same_Some c y f) (subst (λ z. R z c) (same_Some a x e) h.0)
zip_at R (a ∷ xs) (c ∷ ys) (suc k) x y h e f = zip_at R xs ys k x y h.1 e f

pub zip_none : {A B : Type 0} (R : A → B → Type 0) (xs : List A) (ys : List B) (k : ℕ) → AllZip R xs ys → slice_get ys k ≡ None → slice_get xs k ≡ None
zip_none R [] ys k h e = refl
zip_none R (a ∷ xs) [] k h e = absurd h
zip_none {A} {B} R (a ∷ xs) (c ∷ ys) zero h e = absurd (none-some c (sym e))
zip_none R (a ∷ xs) (c ∷ ys) (suc k) h e = zip_none R xs ys k h.1 e

pub zip_more : {A B : Type 0} (R : A → B → Type 0) (xs : List A) (ys : List B) (i : ℕ) (x : A) (y : B) → i < length xs → x ≡ get_or xs i x → AllZip R (take i xs) ys → R x y → AllZip R (take (i + 1) xs) (ys ++ y ∷ [])
zip_more R xs ys i x y lt is h r =
    subst (λ first. AllZip R first (ys ++ y ∷ [])) (sym (take_more xs i x lt)) (zip_push R (take i xs) ys (get_or xs i x) y h (subst (λ a. R a y) is r))
