-- Lists of kinds at places, after a write and at a read.
use Rattle.std.proofs.Common.{ℕ, suc, replicate, ◌≡◌, ◌≢◌, ◌<◌, List, length, Option, Some}
use Rattle.std.proofs.Common.{None, arith, refl, ap, sym, ◌∙◌, subst, inl, inr, ◌⊎◌}
use Rattle.std.specs.List.{slice_get}
use Rattle.std.specs.Option.{option_flatten}
use Rattle.std.proofs.Math.ListN.{set, length-set}
use Rattle.std.proofs.lemmas.Bool.{cases_eq, cases_lt}
use Rattle.std.proofs.lemmas.Option.{slice_get-get_or, slice_get_past, same_Some}
use Rattle.std.proofs.lemmas.List.{get_or-set_same, get_or-set_other}
use Rattle.ifs_base.specs.declared.op.Kind.{Kind}
use Rattle.ifs_verify.specs.inner.Passes.{kinds_at, Extends}

pub slice_get-set_same : {A : Type 0} (xs : List A) (k : ℕ) (x : A) → k < length xs → slice_get (set xs k x) k ≡ Some x
slice_get-set_same xs k x below =
    slice_get-get_or (set xs k x) k x (omega (arith, length-set xs k x)) ∙ ap (λ y. Some y) (get_or-set_same xs k x x below)

pub slice_get-set_other : {A : Type 0} (xs : List A) (k j : ℕ) (x : A) → j ≢ k → slice_get (set xs k x) j ≡ slice_get xs j
slice_get-set_other xs k j x other =
    elim (cases_lt j (length xs)) [
      | inl below ↦
          slice_get-get_or (set xs k x) j x (omega (arith, length-set xs k x))
          ∙ ap (λ y. Some y) (get_or-set_other xs k j x x other) ∙ sym (slice_get-get_or xs j x below)
      | inr past ↦ slice_get_past (set xs k x) j (omega (arith, length-set xs k x)) ∙ sym (slice_get_past xs j past)
    ]

pub kinds_at-set_same : (lists : List (Option (List Kind))) (k : ℕ) (kinds : List Kind) → k < length lists → kinds_at (set lists k (Some kinds)) k ≡ Some kinds
kinds_at-set_same lists k kinds below = ap option_flatten (slice_get-set_same lists k (Some kinds) below)

pub kinds_at-set_other : (lists : List (Option (List Kind))) (k j : ℕ) (list : Option (List Kind)) → j ≢ k → kinds_at (set lists k list) j ≡ kinds_at lists j
kinds_at-set_other lists k j list other = ap option_flatten (slice_get-set_other lists k j list other)

pub kinds_at-none : (n k : ℕ) → kinds_at (replicate n None) k ≡ None
kinds_at-none (suc n) (suc k) = kinds_at-none n k
kinds_at-none n k = refl

-- A write keeps all lists if the place had none or the same one.
pub Extends-set : (lists : List (Option (List Kind))) (to : ℕ) (after : List Kind) → to < length lists
    → ((other : List Kind) → kinds_at lists to ≡ Some other → other ≡ after) → Extends lists (set lists to (Some after))
Extends-set lists to after below same place kinds is =
    elim (cases_eq place to) [
      | inl e ↦
          let there : kinds_at lists to ≡ Some kinds = subst (λ (n : ℕ). kinds_at lists n ≡ Some kinds) e is in
          subst (λ (n : ℕ). kinds_at (set lists to (Some after)) n ≡ Some kinds) (sym e)
          (kinds_at-set_same lists to after below ∙ ap (λ (x : List Kind). Some x) (sym (same kinds there)))
      | inr other ↦ kinds_at-set_other lists to place (Some after) other ∙ is
    ]

-- A list after a write is the written one or an old one.
pub kinds_at-set_cases : (lists : List (Option (List Kind))) (to : ℕ) (after : List Kind) → to < length lists → (place : ℕ) (kinds : List Kind)
    → kinds_at (set lists to (Some after)) place ≡ Some kinds → ((place ≡ to) × (kinds ≡ after)) ⊎ (kinds_at lists place ≡ Some kinds)
kinds_at-set_cases lists to after below place kinds is =
    elim (cases_eq place to) [
      | inl e ↦
          let there : kinds_at (set lists to (Some after)) to ≡ Some kinds = subst (λ (n : ℕ). kinds_at (set lists to (Some after)) n ≡ Some kinds) e is in
          let written : kinds_at (set lists to (Some after)) to ≡ Some after = kinds_at-set_same lists to after below in
          inl (e, same_Some kinds after (sym there ∙ written))
      | inr other ↦ inr (sym (kinds_at-set_other lists to place (Some after) other) ∙ is)
    ]
