-- Properties of every member of a list, and lists made of a list for each member.
use Rattle.std.proofs.Common.{◌≡◌, List, [], ◌∷◌, ◌++◌, fold, sym, ap, ◌∙◌, append_assoc}
use Rattle.std.specs.List.{flat_map, AllByRecursion}
use Rattle.std.proofs.lemmas.List.{append-nil}
use Rattle.std.proofs.lemmas.List.Concat.{flat_map-append}

module _ {X : Type 0} (P : X → Type 0) where
  pub each_left : (xs ys : List X) → AllByRecursion P (xs ++ ys) → AllByRecursion P xs
  each_left [] ys h = tt
  each_left (x ∷ xs) ys h = (h.0, each_left xs ys h.1)

  pub each_right : (xs ys : List X) → AllByRecursion P (xs ++ ys) → AllByRecursion P ys
  each_right [] ys h = h
  each_right (x ∷ xs) ys h = each_right xs ys h.1

  pub each_both : (xs ys : List X) → AllByRecursion P xs → AllByRecursion P ys → AllByRecursion P (xs ++ ys)
  each_both [] ys h g = g
  each_both (x ∷ xs) ys h g = (h.0, each_both xs ys h.1 g)

pub flat_last : {X Y : Type 0} (f : X → List Y) (xs : List X) (x : X) → flat_map f (xs ++ x ∷ []) ≡ flat_map f xs ++ f x
flat_last f xs x = flat_map-append f xs (x ∷ []) ∙ ap (λ l. flat_map f xs ++ l) (append-nil (f x))

pub fold_flat : {X Y : Type 0} (f : X → List Y) (start : List Y) (xs : List X) → fold (λ ys x. ys ++ f x) start xs ≡ start ++ flat_map f xs
fold_flat f start [] = sym (append-nil start)
fold_flat f start (x ∷ xs) = fold_flat f (start ++ f x) xs ∙ append_assoc start (f x) (flat_map f xs)
