-- The facts that a step sees.
use Rattle.std.proofs.Common.{◌≡◌, ℕ, zero, suc, ⊎_elim, Bool, true, ◌&&◌, List, [], ◌∷◌, Option, Some, refl, sym, ap, ◌∙◌}
use Rattle.std.specs.Prelude.{◌==◌, is_some, slice_get, slice_set, if◌then◌else◌}
use Rattle.std.proofs.lemmas.Bool.{cases_eq, eq-eqb, ne_eqb}
use Rattle.ifs_base.specs.Facts.{Facts}
use Rattle.ifs_core.specs.declared.step.Step.{Step}
use Rattle.ifs_core.specs.declared.step.Step.TheVariants.{Link, Finished, Tick, Take}
use Rattle.ifs_claims.specs.Moves.{seen}
use Rattle.ifs_prove.specs.inner.Facts.{link_over, value_over}

-- A value in place of one that is there.
abbrev replaced : {X : Type 0} → Bool → X → Option X → Option X
replaced here x before = if here && is_some before then Some x else before

set_here : {X : Type 0} (xs : List X) (i : ℕ) (x : X) → slice_get (slice_set xs i x) i ≡ replaced true x (slice_get xs i)
set_here [] i x = refl
set_here (y ∷ ys) zero x = refl
set_here (y ∷ ys) (suc i) x = set_here ys i x

set_elsewhere : {X : Type 0} (xs : List X) (i k : ℕ) (x : X) → (i ≡ k → ⊥) → slice_get (slice_set xs i x) k ≡ slice_get xs k
set_elsewhere [] i k x differ = refl
set_elsewhere (y ∷ ys) zero zero x differ = absurd (differ refl)
set_elsewhere (y ∷ ys) zero (suc k) x differ = refl
set_elsewhere (y ∷ ys) (suc i) zero x differ = refl
set_elsewhere (y ∷ ys) (suc i) (suc k) x differ = set_elsewhere ys i k x (λ e. differ (ap suc e))

set_is : {X : Type 0} (xs : List X) (i k : ℕ) (x : X) → slice_get (slice_set xs i x) k ≡ replaced (i == k) x (slice_get xs k)
set_is xs i k x =
    ⊎_elim
    (λ same. ap (λ n. slice_get (slice_set xs n x) k) same ∙ set_here xs k x ∙ ap (λ b. replaced b x (slice_get xs k)) (sym (eq-eqb i k same)))
    (λ differ. set_elsewhere xs i k x differ ∙ ap (λ b. replaced b x (slice_get xs k)) (sym (ne_eqb i k differ)))
    (cases_eq i k)

pub link_is_seen : (step : Step) (facts : Facts) (interface : ℕ) → slice_get (seen step facts).links interface ≡ link_over step interface (slice_get facts.links interface)
link_is_seen (Link other link) facts interface = set_is facts.links other.0 interface link
link_is_seen (Finished test run value) facts interface = refl
link_is_seen (Tick now) facts interface = refl
link_is_seen Take facts interface = refl

pub value_is_seen : (step : Step) (facts : Facts) (test : ℕ) → slice_get (seen step facts).tests test ≡ value_over step test (slice_get facts.tests test)
value_is_seen (Link interface link) facts test = refl
value_is_seen (Finished other run value) facts test = set_is facts.tests other.0 test (Some value)
value_is_seen (Tick now) facts test = refl
value_is_seen Take facts test = refl
