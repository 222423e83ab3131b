-- Words by their number.
use Rattle.std.proofs.Common.{◌≡◌, ℕ, ◌-◌, ◌<◌, ◌≤◌, cond, codes, List, [], ◌∷◌, length, map, take, drop, get_or, None, false, refl, sym, ap, ◌∙◌, arith}
use Rattle.std.specs.Prelude.{◌&&◌}
use Rattle.std.specs.Str.{bytes_eq}
use Rattle.std.proofs.lemmas.Bool.{cond-false}
use Rattle.std.proofs.lemmas.List.{take_rest}
use Rattle.ifs_asm.specs.inner.Forms.{line_of, long_line, numbered_handlers, handlers_in}

long_case : {X : Type 0} (view : X → List ℕ) (xs : List X) (d : X) → 4 ≤ length xs → long_line (view (get_or xs 0 d)) (map view (drop 1 xs)) ≡ line_of (map view xs)
long_case view [] d le = absurd (omega (arith, le))
long_case view (a ∷ []) d le = absurd (omega (arith, le))
long_case view (a ∷ b ∷ []) d le = absurd (omega (arith, le))
long_case view (a ∷ b ∷ c ∷ []) d le = absurd (omega (arith, le))
long_case view (a ∷ b ∷ c ∷ e ∷ xs) d le = refl

pub long : {X : Type 0} (view : X → List ℕ) (xs : List X) (d : X) → 4 ≤ length xs → long_line (view (get_or xs 0 d)) (map view (take (length xs - 1) (drop 1 xs))) ≡ line_of (map view xs)
long {X} view xs d le = ap (λ (rest : List X). long_line (view (get_or xs 0 d)) (map view rest)) (take_rest xs 1) ∙ long_case view xs d le

pub six : {X : Type 0} (view : X → List ℕ) (xs : List X) (p q r s t u : X) → 6 ≤ length xs → length xs < 7
    → handlers_in (map view xs) ≡ cond (bytes_eq (view (get_or xs 0 p)) (codes "init") && (bytes_eq (view (get_or xs 2 q)) (codes "body") && bytes_eq (view (get_or xs 4 r)) (codes "tests")))
    (numbered_handlers (view (get_or xs 1 s)) (view (get_or xs 3 t)) (view (get_or xs 5 u))) None
six view [] p q r s t u le lt = absurd (omega (arith, le))
six view (a ∷ []) p q r s t u le lt = absurd (omega (arith, le))
six view (a ∷ b ∷ []) p q r s t u le lt = absurd (omega (arith, le))
six view (a ∷ b ∷ c ∷ []) p q r s t u le lt = absurd (omega (arith, le))
six view (a ∷ b ∷ c ∷ d ∷ []) p q r s t u le lt = absurd (omega (arith, le))
six view (a ∷ b ∷ c ∷ d ∷ e ∷ []) p q r s t u le lt = absurd (omega (arith, le))
six view (a ∷ b ∷ c ∷ d ∷ e ∷ f ∷ []) p q r s t u le lt = refl
six view (a ∷ b ∷ c ∷ d ∷ e ∷ f ∷ g ∷ xs) p q r s t u le lt = absurd (omega (arith, lt))

pub six_none : {X : Type 0} (view : X → List ℕ) (xs : List X) (p q r : X) → 6 ≤ length xs → length xs < 7
    → (bytes_eq (view (get_or xs 0 p)) (codes "init") && (bytes_eq (view (get_or xs 2 q)) (codes "body") && bytes_eq (view (get_or xs 4 r)) (codes "tests"))) ≡ false → None ≡ handlers_in (map view xs)
six_none view xs p q r le lt e = sym (six view xs p q r p p p le lt ∙ cond-false _ _ _ e)
