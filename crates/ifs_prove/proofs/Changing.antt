-- Changes of the state, step by step.
use Rattle.std.proofs.Common.{◌≡◌, ℕ, ◌+◌, ◌<◌, ◌≤◌, ⊎_elim, Bool, true, false, List, [], ◌∷◌, ◌++◌, length, get_or, take, Option, refl, sym, ap, ◌∙◌, subst, append_assoc, arith}
use Rattle.std.specs.Prelude.{◌==◌}
use Rattle.std.proofs.lemmas.Bool.{cases_eq, eq-eqb, ne_eqb}
use Rattle.std.proofs.lemmas.List.{append-nil, take_more, take_all}
use Rattle.ifs_claims.specs.Changes.{counted, changes_of, World, KeepsTo, AllKeepTo}
use Rattle.ifs_core.specs.declared.step.Step.{Step}
use Rattle.ifs_solver.specs.Situations.{Situation}
use Rattle.ifs_prove.specs.inner.Making.{IsResult, AreResults}

counted_more : (b : Bool) (m n : ℕ) → counted b (m + n) ≡ counted b m + n
counted_more true m n = refl
counted_more false m n = omega arith

plus_zero : (n : ℕ) → n ≡ n + 0
plus_zero n = omega arith

zero_plus : (n : ℕ) → n ≡ 0 + n
zero_plus n = omega arith

-- One more step.
pub changes_more : (situation : List Step → Situation) (begun steps : List Step) (step : Step)
    → changes_of situation begun (steps ++ step ∷ []) ≡ changes_of situation begun steps + counted ((situation ((begun ++ steps) ++ step ∷ [])).current.0 == (situation (begun ++ steps)).current.0) 0
changes_more situation begun [] step =
    ap (λ bs. counted ((situation (bs ++ step ∷ [])).current.0 == (situation bs).current.0) 0) (sym (append-nil begun))
    ∙ zero_plus (counted ((situation ((begun ++ []) ++ step ∷ [])).current.0 == (situation (begun ++ [])).current.0) 0)
changes_more situation begun (first ∷ steps) step =
    let next = begun ++ first ∷ [] in
    let is_same = (situation next).current.0 == (situation begun).current.0 in
    ap (counted is_same) (changes_more situation next steps step)
    ∙ counted_more is_same (changes_of situation next steps) (last_of (next ++ steps))
    ∙ ap (λ bs. counted is_same (changes_of situation next steps) + last_of bs) (append_assoc begun (first ∷ []) steps)
  where
    last_of : List Step → ℕ
    last_of bs = counted ((situation (bs ++ step ∷ [])).current.0 == (situation bs).current.0) 0

-- All of some steps and one more keep to a world.
pub keep_more : (world : World) (steps : List Step) (step : Step) → AllKeepTo world steps → KeepsTo world step → AllKeepTo world (steps ++ step ∷ [])
keep_more world [] step h k = (k, tt)
keep_more world (first ∷ steps) step h k = (h.0, keep_more world steps step h.1 k)

pub keep_next : (world : World) (steps : List Step) (i : ℕ) (d : Step) → i < length steps → AllKeepTo world (take i steps) → KeepsTo world (get_or steps i d) → AllKeepTo world (take (i + 1) steps)
keep_next world steps i d lt h k = subst (AllKeepTo world) (sym (take_more steps i d lt)) (keep_more world (take i steps) (get_or steps i d) h k)

pub keep_all : (world : World) (steps : List Step) (i : ℕ) → length steps ≤ i → AllKeepTo world (take i steps) → AllKeepTo world steps
keep_all world steps i all h = subst (AllKeepTo world) (take_all i steps all) h

-- The results of one more test.
pub results_next : (values : List (Option Bool)) (results : List Bool) (count : ℕ) → AreResults values results count → IsResult values results count → AreResults values results (count + 1)
results_next values results count h k test lt =
    ⊎_elim (λ e. subst (IsResult values results) (sym e) k) (λ differ. let d : test ≡ count → ⊥ = differ in h test (omega (arith, d, lt))) (cases_eq test count)

-- One more step of a core that is in the situations of a policy.
module _ (situation : List Step → Situation) (begun steps : List Step) (i : ℕ) (d : Step) (lt : i < length steps) (count before after : ℕ) (counted_is : count ≡ changes_of situation begun (take i steps))
    (before_is : before ≡ (situation (begun ++ take i steps)).current.0) (after_is : after ≡ (situation ((begun ++ take i steps) ++ get_or steps i d ∷ [])).current.0) where
  next_counted : (is_same : Bool) → (after == before) ≡ is_same → changes_of situation begun (take (i + 1) steps) ≡ count + counted is_same 0
  next_counted is_same e =
      ap (changes_of situation begun) (take_more steps i d lt)
      ∙ changes_more situation begun (take i steps) (get_or steps i d)
      ∙ ap (λ n. n + counted ((situation ((begun ++ take i steps) ++ get_or steps i d ∷ [])).current.0 == (situation (begun ++ take i steps)).current.0) 0) (sym counted_is)
      ∙ ap (λ n. count + counted (n == (situation (begun ++ take i steps)).current.0) 0) (sym after_is)
      ∙ ap (λ n. count + counted (after == n) 0) (sym before_is)
      ∙ ap (λ b. count + counted b 0) e

  -- The state is the same, or another one.
  pub same_counted : after ≡ before → count ≡ changes_of situation begun (take (i + 1) steps)
  same_counted e = plus_zero count ∙ sym (next_counted true (eq-eqb after before e))

  pub other_counted : (after ≡ before → ⊥) → count + 1 ≡ changes_of situation begun (take (i + 1) steps)
  other_counted differ = sym (next_counted false (ne_eqb after before differ))

pub all_counted : (situation : List Step → Situation) (begun steps : List Step) (i count : ℕ) → length steps ≤ i → count ≡ changes_of situation begun (take i steps) → count ≡ changes_of situation begun steps
all_counted situation begun steps i count all h = h ∙ ap (changes_of situation begun) (take_all i steps all)
