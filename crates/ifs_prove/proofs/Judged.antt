-- What is reported of several values or commands, one by one.
use Rattle.std.proofs.Common.{◌≡◌, ◌⊎◌, ⊎_elim, inl, inr, refl, ℕ, ◌+◌, ◌<◌, ◌≤◌, List, length, get_or, take, subst, arith, Result, Ok, Err}
use Rattle.std.specs.Prelude.{All, IfOk}
use Rattle.std.specs.declared.alloc.AllocError.{AllocError}
use Rattle.std.proofs.lemmas.List.{take_all}
use Rattle.std.proofs.lemmas.List.Elements.{All-more, Contains-get_or}
use Rattle.ifs_solver.specs.Budgets.{IsSpent, IsUsedUp}
use Rattle.ifs_prove.specs.Claiming.{IsOneOf}
use Rattle.ifs_prove.specs.inner.Judging.{IsOpenFor}
use Rattle.ifs_solver.specs.declared.searching.Budget.{Budget}
use Rattle.ifs_solver.specs.declared.searching.Extent.{Extent}
use Rattle.ifs_solver.specs.declared.searching.Extent.TheVariants.{Nowhere, Somewhere, Undecided}
use Rattle.ifs_solver.specs.Asking.{either, IsAnswered}
use Rattle.ifs_solver.proofs.Paying.{more_used, still_used}

module _ {X : Type 0} (P B : X → Type 0) (values : List X) where
  -- What is reported of the first ones.
  abbrev pub IsSaid : ℕ → Extent → Type 0
  IsSaid count = IsAnswered (All P (take count values)) (IsOneOf values B)

  pub none_said : IsSaid 0 Nowhere
  none_said k d lt = absurd (omega (arith, lt))

  -- One more.
  pub next_said : (i : ℕ) (d : X) (before more : Extent) → i < length values → IsSaid i before → IsAnswered (P (get_or values i d)) (B (get_or values i d)) more → IsSaid (i + 1) (either before more)
  next_said i d Nowhere Nowhere lt h k = All-more P values i d lt h k
  next_said i d Nowhere Somewhere lt h k = (get_or values i d, Contains-get_or values i d lt, k)
  next_said i d Nowhere Undecided lt h k = tt
  next_said i d Somewhere more lt h k = h
  next_said i d Undecided Nowhere lt h k = tt
  next_said i d Undecided Somewhere lt h k = (get_or values i d, Contains-get_or values i d lt, k)
  next_said i d Undecided Undecided lt h k = tt

  -- All of them.
  pub all_said : (count : ℕ) (told : Extent) → length values ≤ count → IsSaid count told → IsAnswered (All P values) (IsOneOf values B) told
  all_said count told all h = subst (λ first. IsAnswered (All P first) (IsOneOf values B) told) (take_all count values all) h

  -- One of the first ones would break it.
  pub one_said : (count : ℕ) (told : Extent) → told ≡ Somewhere → IsSaid count told → IsAnswered (All P values) (IsOneOf values B) Somewhere
  one_said count told is h = subst (IsSaid count) is h

  module _ (O : X → Type 0) where
    -- Nothing was asked so far.
    pub none_open : (b : Budget) → IsOpenFor values O b b Nowhere
    none_open b e = cc

    -- One more.
    pub next_open : (i : ℕ) (d : X) (before more : Extent) (b b1 b2 : Budget) → i < length values → IsSpent b b1 → IsSpent b1 b2 → IsOpenFor values O b b1 before
        → (more ≡ Undecided → IsUsedUp b1 b2 ⊎ O (get_or values i d)) → IsOpenFor values O b b2 (either before more)
    next_open i d Nowhere more b b1 b2 lt first second h k e =
        ⊎_elim (λ used. inl (more_used b b1 b2 first used)) (λ o. inr (get_or values i d, Contains-get_or values i d lt, o)) (k e)
    next_open i d Somewhere more b b1 b2 lt first second h k e = cc
    next_open i d Undecided Somewhere b b1 b2 lt first second h k e = cc
    next_open i d Undecided Nowhere b b1 b2 lt first second h k e = ⊎_elim (λ used. inl (still_used b b1 b2 second used)) (λ o. inr o) (h refl)
    next_open i d Undecided Undecided b b1 b2 lt first second h k e = ⊎_elim (λ used. inl (still_used b b1 b2 second used)) (λ o. inr o) (h refl)

-- If there is no answer, one of both is so.
pub one_or_other : (A B : Type 0) (r : Result Extent AllocError) → IfOk r (λ told. told ≡ Undecided → A) → IfOk r (λ told. told ≡ Undecided → A ⊎ B)
one_or_other A B (Ok told) h = λ e. inl (h e)
one_or_other A B (Err fault) h = tt

-- What is so of each answer is so of one that was given.
pub in_any_case : (r : Result Extent AllocError) (P : Extent → Type 0) → ((told : Extent) → P told) → IfOk r P
in_any_case (Ok told) P h = h told
in_any_case (Err fault) P h = tt

-- If no value has no answer otherwise, the budget is used up.
pub only_used : {X : Type 0} (A B : Type 0) (values : List X) (r : Result Extent AllocError) → IfOk r (λ told. told ≡ Undecided → A ⊎ IsOneOf values (λ x. ⊥)) → IfOk r (λ told. told ≡ Undecided → A ⊎ B)
only_used A B values (Ok told) h = λ e. ⊎_elim (λ used. inl used) (λ one. absurd one.2) (h e)
only_used A B values (Err fault) h = tt
