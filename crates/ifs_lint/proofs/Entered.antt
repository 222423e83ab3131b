-- The states that steps enter, step by step.
use Rattle.std.proofs.Common.{◌≡◌, ℕ, ◌+◌, ◌<◌, ◌≤◌, Bool, true, false, List, [], ◌∷◌, ◌++◌, length, get_or, take, refl, sym, ap, ◌∙◌, append_assoc}
use Rattle.std.specs.Prelude.{◌==◌}
use Rattle.std.proofs.lemmas.Bool.{eq-eqb, ne_eqb}
use Rattle.std.proofs.lemmas.List.{append-nil, take_more, take_all}
use Rattle.ifs_base.specs.declared.ids.StateId.{StateId}
use Rattle.ifs_core.specs.declared.step.Step.{Step}
use Rattle.ifs_solver.specs.Situations.{Situation}
use Rattle.ifs_lint.specs.Rounds.{entered_first, entered_of}

first_more : (b : Bool) (state : StateId) (xs ys : List StateId) → entered_first b state (xs ++ ys) ≡ entered_first b state xs ++ ys
first_more true state xs ys = refl
first_more false state xs ys = refl

-- One more step.
pub entered_more : (situation : List Step → Situation) (begun steps : List Step) (step : Step)
    → entered_of situation begun (steps ++ step ∷ []) ≡ entered_of situation begun steps ++ entered_first ((situation ((begun ++ steps) ++ step ∷ [])).current.0 == (situation (begun ++ steps)).current.0) (situation ((begun ++ steps) ++ step ∷ [])).current []
entered_more situation begun [] step =
    ap (λ bs. entered_first ((situation (bs ++ step ∷ [])).current.0 == (situation bs).current.0) (situation (bs ++ step ∷ [])).current []) (sym (append-nil begun))
entered_more situation begun (first ∷ steps) step =
    let next = begun ++ first ∷ [] in
    let is_same = (situation next).current.0 == (situation begun).current.0 in
    ap (entered_first is_same (situation next).current) (entered_more situation next steps step)
    ∙ first_more is_same (situation next).current (entered_of situation next steps) (last_of (next ++ steps))
    ∙ ap (λ bs. entered_first is_same (situation next).current (entered_of situation next steps) ++ last_of bs) (append_assoc begun (first ∷ []) steps)
  where
    last_of : List Step → List StateId
    last_of bs = entered_first ((situation (bs ++ step ∷ [])).current.0 == (situation bs).current.0) (situation (bs ++ step ∷ [])).current []

-- One more step of a core that is in the situations of a policy.
module _ (situation : List Step → Situation) (begun steps : List Step) (i : ℕ) (d : Step) (lt : i < length steps) (states : List StateId) (before after : StateId)
    (entered_is : states ≡ entered_of situation begun (take i steps)) (before_is : before ≡ (situation (begun ++ take i steps)).current)
    (after_is : after ≡ (situation ((begun ++ take i steps) ++ get_or steps i d ∷ [])).current) where
  next_entered : (is_same : Bool) → (after.0 == before.0) ≡ is_same → entered_of situation begun (take (i + 1) steps) ≡ states ++ entered_first is_same after []
  next_entered is_same e =
      ap (entered_of situation begun) (take_more steps i d lt)
      ∙ entered_more situation begun (take i steps) (get_or steps i d)
      ∙ ap (λ xs. xs ++ entered_first ((situation ((begun ++ take i steps) ++ get_or steps i d ∷ [])).current.0 == (situation (begun ++ take i steps)).current.0) (situation ((begun ++ take i steps) ++ get_or steps i d ∷ [])).current []) (sym entered_is)
      ∙ ap (λ s. states ++ entered_first (s.0 == (situation (begun ++ take i steps)).current.0) s []) (sym after_is)
      ∙ ap (λ s. states ++ entered_first (after.0 == s.0) after []) (sym before_is)
      ∙ ap (λ b. states ++ entered_first b after []) e

  -- The state is the same, or another one.
  pub same_entered : after.0 ≡ before.0 → states ≡ entered_of situation begun (take (i + 1) steps)
  same_entered e = sym (append-nil states) ∙ sym (next_entered true (eq-eqb after.0 before.0 e))

  pub other_entered : (after.0 ≡ before.0 → ⊥) → states ++ after ∷ [] ≡ entered_of situation begun (take (i + 1) steps)
  other_entered differ = sym (next_entered false (ne_eqb after.0 before.0 differ))

pub all_entered : (situation : List Step → Situation) (begun steps : List Step) (i : ℕ) (states : List StateId) → length steps ≤ i → states ≡ entered_of situation begun (take i steps) → states ≡ entered_of situation begun steps
all_entered situation begun steps i states all h = h ∙ ap (entered_of situation begun) (take_all i steps all)
