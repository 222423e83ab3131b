-- Routines whose instructions are fine one by one have a typing and bounds, and keep the rules.
use Rattle.std.proofs.Common.{◌≡◌, ℕ, zero, suc, ◌+◌, ◌<◌, ◌≤◌, ◌⊎◌, inl, inr, ⊎_elim, List}
use Rattle.std.proofs.Common.{[], ◌∷◌, ◌++◌, length, Some, refl, sym, ap, ◌∙◌, subst, arith}
use Rattle.std.specs.Prelude.{slice_get, reverse}
use Rattle.std.proofs.lemmas.Option.{none-some, same_Some, slice_get_within}
use Rattle.ifs_base.specs.declared.ids.RoutineId.{RoutineId}
use Rattle.ifs_base.specs.declared.op.Kind.{Kind}
use Rattle.ifs_base.specs.declared.op.Op.{Op}
use Rattle.ifs_base.specs.declared.op.Op.TheVariants.{Ret, Call}
use Rattle.ifs_image.specs.declared.parts.Routine.{Routine}
use Rattle.ifs_image.specs.declared.parts.ImageParts.{ImageParts}
use Rattle.ifs_image.specs.Code.{IsSuccessor, target_of, effect}
use Rattle.ifs_verify.specs.Rules.{HasOperand}

-- The routines that may be called: the first ones, each of some height.
pub record Callees : Type 0 where
  pub count : ℕ
  pub height : ℕ → ℕ

-- An instruction before the end is fine at a place: its operand and its kinds are there, it leaves the kinds of its successors, control falls through or jumps to a later place, and it calls only routines that may be called and have room.
pub record IsFine (image : ImageParts) (callees : Callees) (kinds : ℕ → List Kind) (height end place : ℕ) (op : Op) : Type 0 where
  pub operand : HasOperand image op
  pub after : List Kind
  pub effect_is : effect image op (kinds place) ≡ Some after
  pub onward : (to : ℕ) → IsSuccessor op place to → kinds to ≡ after
  pub jumps : (target : ℕ) → target_of op ≡ Some target → (place < target) × (target ≤ end)
  pub falls : IsSuccessor op place (place + 1)
  pub call : (callee : RoutineId) → op ≡ Call callee → (callee.0 < callees.count) × (length (kinds place) + callees.height callee.0 ≤ height)
  pub low : length (kinds place) ≤ height
  pub high : length after ≤ height

-- Each of these instructions is fine, from a place on.
abbrev pub AreFine : ImageParts → Callees → (ℕ → List Kind) → ℕ → ℕ → ℕ → List Op → Type 0
AreFine image callees kinds height end place [] = Unit {0}
AreFine image callees kinds height end place (op ∷ ops) = IsFine image callees kinds height end place op × AreFine image callees kinds height end (place + 1) ops

-- Each callee of these instructions stays within a height, above the kinds at the place of its call.
abbrev pub CallsWithin : Callees → (ℕ → List Kind) → ℕ → ℕ → List Op → Type 0
CallsWithin callees kinds height place [] = Unit {0}
CallsWithin callees kinds height place (op ∷ ops) =
    ((callee : RoutineId) → op ≡ Call callee → length (kinds place) + callees.height callee.0 ≤ height) × CallsWithin callees kinds height (place + 1) ops

module _ (callees : Callees) (kinds : ℕ → List Kind) (height : ℕ) where
  pub calls_left : (place : ℕ) (xs ys : List Op) → CallsWithin callees kinds height place (xs ++ ys) → CallsWithin callees kinds height place xs
  calls_left place [] ys h = tt
  calls_left place (x ∷ xs) ys h = (h.0, calls_left (place + 1) xs ys h.1)

  pub calls_right : (place : ℕ) (xs ys : List Op) (from : ℕ) → place + length xs ≡ from → CallsWithin callees kinds height place (xs ++ ys) → CallsWithin callees kinds height from ys
  calls_right place [] ys from e h = let same : place ≡ from = omega (arith, e) in subst (λ p. CallsWithin callees kinds height p ys) same h
  calls_right place (x ∷ xs) ys from e h = calls_right (place + 1) xs ys from (omega (arith, e)) h.1

module _ (image : ImageParts) (callees : Callees) (kinds : ℕ → List Kind) (height end : ℕ) where
  pub fine_append : (place : ℕ) (xs ys : List Op) (from : ℕ) → place + length xs ≡ from → AreFine image callees kinds height end place xs → AreFine image callees kinds height end from ys
      → AreFine image callees kinds height end place (xs ++ ys)
  fine_append place [] ys from e h g = let same : from ≡ place = omega (arith, e) in subst (λ p. AreFine image callees kinds height end p ys) same g
  fine_append place (x ∷ xs) ys from e h g = (h.0, fine_append (place + 1) xs ys from (omega (arith, e)) h.1 g)

  pub fine_at : (place : ℕ) (ops : List Op) (k : ℕ) (op : Op) → AreFine image callees kinds height end place ops → slice_get ops k ≡ Some op → IsFine image callees kinds height end (place + k) op
  fine_at place [] k op h e = absurd (none-some op e)
  fine_at place (x ∷ ops) zero op h e =
      let same : place ≡ place + 0 = omega arith in
      subst (λ p. IsFine image callees kinds height end p op) same (subst (λ o. IsFine image callees kinds height end place o) (same_Some x op e) h.0)
  fine_at place (x ∷ ops) (suc k) op h e =
      let same : place + 1 + k ≡ place + suc k = omega arith in
      subst (λ p. IsFine image callees kinds height end p op) same (fine_at (place + 1) ops k op h.1 e)

  pub fine_from_start : (ops : List Op) (k : ℕ) (op : Op) → AreFine image callees kinds height end 0 ops → slice_get ops k ≡ Some op → IsFine image callees kinds height end k op
  fine_from_start ops k op h e = let same : 0 + k ≡ k = omega arith in subst (λ p. IsFine image callees kinds height end p op) same (fine_at 0 ops k op h e)

-- A good routine begins with its parameters, has fine instructions and ends with its results. It needs its height.
pub record IsGood (image : ImageParts) (callees : Callees) (r : Routine) : Type 0 where
  pub front : List Op
  pub code : r.code ≡ front ++ Ret ∷ []
  pub kinds : ℕ → List Kind
  pub height : ℕ
  pub fine : AreFine image callees kinds height (length front) 0 front
  pub start : kinds 0 ≡ reverse r.params.items
  pub end : kinds (length front) ≡ reverse r.results.items
  pub room : length (reverse r.results.items) ≤ height
  pub least : (other : ℕ) → ((place : ℕ) → place ≤ length front → length (kinds place) ≤ other) → CallsWithin callees kinds other 0 front → height ≤ other

-- An instruction of a good routine is the end, or fine.
pub data IsAt (image : ImageParts) (callees : Callees) (r : Routine) (good : IsGood image callees r) (place : ℕ) (op : Op) : Type 0 where
  inside : place < length good.front → IsFine image callees good.kinds good.height (length good.front) place op → IsAt image callees r good place op
  last : place ≡ length good.front → op ≡ Ret → IsAt image callees r good place op

split_at : (front : List Op) (k : ℕ) (op : Op) → slice_get (front ++ Ret ∷ []) k ≡ Some op → (slice_get front k ≡ Some op) ⊎ ((k ≡ length front) × (op ≡ Ret))
split_at [] zero op e = inr (refl, sym (same_Some Ret op e))
split_at [] (suc k) op e = absurd (none-some op e)
split_at (x ∷ front) zero op e = inl e
split_at (x ∷ front) (suc k) op e = ⊎_elim (λ h. inl h) (λ h. inr (ap suc h.0, h.1)) (split_at front k op e)

pub is_at : (image : ImageParts) (callees : Callees) (r : Routine) (good : IsGood image callees r) (place : ℕ) (op : Op) → slice_get r.code place ≡ Some op → IsAt image callees r good place op
is_at image callees r good place op e =
    ⊎_elim
    (λ within. inside (slice_get_within good.front place op within) (fine_from_start image callees good.kinds good.height (length good.front) good.front place op good.fine within))
    (λ end. last end.0 end.1)
    (split_at good.front place op (sym (ap (λ c. slice_get c place) good.code) ∙ e))
