-- What is said of the states, one after the other.
use Rattle.std.proofs.Common.{◌≡◌, ℕ, zero, suc, ◌+◌, ◌<◌, ◌≤◌, ◌≢◌, ◌⊎◌, ⊎_elim, inl, inr, Bool, true, false, ◌&&◌, ◌||◌, List, [], ◌∷◌, ◌++◌, length, Some, refl, sym, ap, ◌∙◌, subst, arith}
use Rattle.std.specs.Prelude.{slice_get}
use Rattle.std.specs.Bool.{OnTrue, OnFalse}
use Rattle.std.specs.List.{list_any}
use Rattle.std.proofs.lemmas.Bool.{false≢true, true≢false, OnTrue_from, OnFalse_from, OnTrue_at, OnFalse_at}
use Rattle.std.proofs.lemmas.List.{length-append}
use Rattle.std.proofs.lemmas.List.Folds.{list_any-append}
use Rattle.std.proofs.lemmas.Option.{none-some, same_Some}
use Rattle.ifs_gen.specs.Trees.{Part}
use Rattle.ifs_solver.specs.declared.fact_sets.Scope.{Scope}
use Rattle.ifs_compare.specs.declared.effort.Effort.{Effort}
use Rattle.ifs_compare.specs.declared.parts.PartAnswer.{PartAnswer}
use Rattle.ifs_compare.specs.declared.parts.StateAnswer.{StateAnswer}
use Rattle.ifs_compare.specs.declared.sides.Sides.{Sides}
use Rattle.ifs_compare.specs.Alike.{AreStatesAlike}
use Rattle.ifs_compare.specs.Differing.{by_initial, by_count}
use Rattle.ifs_compare.specs.inner.Comparing.{IsPartAnswer, IsNumberedAnswer, AreNumberedAnswers, IsSpentAfter, SidesDiffer, AreFirstAlike, is_part_alike, is_part_open, is_open, is_alike}
use Rattle.ifs_compare.proofs.Spending.{first_so, second_so, nothing_spent, spent_more}
use Rattle.ifs_compare.proofs.Apart.{not_both, always_apart, numbered_apart}
use Rattle.ifs_compare.proofs.Sames.{first_of, second_of, none_first, one_more_first, all_first}

-- What is said of the first states is so.
pub record AreFirstJudged (scope : Scope) (sides : Sides) (earlier : Bool) (before now : Effort) (so_far : Bool) (said : List StateAnswer) (n : ℕ) : Type 0 where
  pub count : length said ≡ n
  pub alike : so_far ≡ true → AreFirstAlike scope sides.old.always.now sides.new.always.now sides.old.states.now sides.new.states.now n
  pub apart : so_far ≡ false → (list_any is_open said ≡ true) ⊎ SidesDiffer scope sides
  pub answers : AreNumberedAnswers scope sides said
  pub spent : IsSpentAfter earlier before now (list_any is_open said)

-- A member of a list to which one is added.
in_push : {X : Type 0} (xs : List X) (x : X) (i : ℕ) (y : X) → slice_get (xs ++ x ∷ []) i ≡ Some y → (slice_get xs i ≡ Some y) ⊎ ((i ≡ length xs) × (x ≡ y))
in_push [] x zero y e = inr (refl, same_Some x y e)
in_push [] x (suc i) y e = absurd (none-some y e)
in_push (z ∷ zs) x zero y e = inl e
in_push (z ∷ zs) x (suc i) y e = ⊎_elim inl (λ h. inr (ap suc h.0, h.1)) (in_push zs x i y e)

pub member_at : {X : Type 0} (xs : List X) (i : ℕ) → i < length xs → (x : X) × (slice_get xs i ≡ Some x)
member_at [] i lt = absurd (omega (arith, lt))
member_at (x ∷ xs) zero lt = (x, refl)
member_at (x ∷ xs) (suc i) lt = member_at xs i (omega (arith, lt))

pub none_judged : (scope : Scope) (sides : Sides) (earlier : Bool) (effort : Effort) → AreFirstJudged scope sides earlier effort effort true [] 0
none_judged scope sides earlier effort = record {
  count = refl;
  alike = λ e. none_first scope sides.old.always.now sides.new.always.now sides.old.states.now sides.new.states.now;
  apart = λ e. absurd (true≢false e);
  answers = λ index answer at. absurd (none-some answer at);
  spent = record { reduced = nothing_spent effort; used_up = λ e. absurd (false≢true e) };
}

module _ (scope : Scope) (sides : Sides) (earlier : Bool) (before now next : Effort) (alike : Bool) (answers : List StateAnswer) (n : ℕ) (answer : StateAnswer) where
  open_before : list_any is_open answers ≡ true → list_any is_open (answers ++ answer ∷ []) ≡ true
  open_before h = list_any-append is_open answers (answer ∷ []) ∙ first_so (list_any is_open answers) (list_any is_open (answer ∷ [])) h

  open_now : is_open answer ≡ true → list_any is_open (answers ++ answer ∷ []) ≡ true
  open_now h = list_any-append is_open answers (answer ∷ []) ∙ second_so (list_any is_open answers) (list_any is_open (answer ∷ [])) (first_so (is_open answer) false h)

  pub one_more_judged : (one other : Part) → slice_get sides.old.states.now n ≡ Some one → slice_get sides.new.states.now n ≡ Some other → AreFirstJudged scope sides earlier before now alike answers n
      → IsNumberedAnswer scope sides n answer → IsSpentAfter earlier now next (is_open answer) → AreFirstJudged scope sides earlier before next (alike && is_alike answer) (answers ++ answer ∷ []) (n + 1)
  one_more_judged one other at there h k spent = record {
    count = let so_far = h.count in omega (arith, length-append answers (answer ∷ []));
    alike = λ e. one_more_first scope sides n answer k (second_of alike (is_alike answer) e) (h.alike (first_of alike (is_alike answer) e));
    apart = λ e.
        ⊎_elim (λ earlier_so. ⊎_elim (λ is. inl (open_before is)) inr (h.apart earlier_so))
        (λ own. ⊎_elim (λ is. inl (open_now is)) inr (numbered_apart scope sides n one other answer at there k own)) (not_both alike (is_alike answer) e);
    answers = λ index it is.
        ⊎_elim (λ known. h.answers index it known)
        (λ last. subst (λ i. IsNumberedAnswer scope sides i it) (sym (last.0 ∙ h.count)) (subst (IsNumberedAnswer scope sides n) last.1 k)) (in_push answers answer index it is);
    spent = spent_more earlier before now next answers answer h.spent spent;
  }

-- All states.
pub states_alike : (scope : Scope) (sides : Sides) (alike same result : Bool) (n : ℕ) → result ≡ (alike && same) → OnTrue same (length sides.old.states.now ≡ length sides.new.states.now)
    → (length sides.old.states.now ≡ length sides.new.states.now → length sides.old.states.now ≤ n)
    → (alike ≡ true → AreFirstAlike scope sides.old.always.now sides.new.always.now sides.old.states.now sides.new.states.now n)
    → OnTrue result (AreStatesAlike scope sides.old.always.now sides.new.always.now sides.old.states.now sides.new.states.now)
states_alike scope sides alike same result n is lengths reaches first =
    OnTrue_from result (AreStatesAlike scope sides.old.always.now sides.new.always.now sides.old.states.now sides.new.states.now) (λ yes.
    let all = sym is ∙ yes in
    let so_many = OnTrue_at (second_of alike same all) lengths in
    all_first scope sides.old.always.now sides.new.always.now sides.old.states.now sides.new.states.now n so_many (reaches so_many) (first (first_of alike same all)))

pub states_apart : (scope : Scope) (sides : Sides) (alike same result : Bool) (answers : List StateAnswer) → result ≡ (alike && same) → OnFalse same (length sides.old.states.now ≢ length sides.new.states.now)
    → (alike ≡ false → (list_any is_open answers ≡ true) ⊎ SidesDiffer scope sides) → OnFalse result ((list_any is_open answers ≡ true) ⊎ SidesDiffer scope sides)
states_apart scope sides alike same result answers is lengths apart =
    OnFalse_from result ((list_any is_open answers ≡ true) ⊎ SidesDiffer scope sides) (λ no.
    ⊎_elim apart (λ others. inr (inl (by_count (OnFalse_at others lengths)))) (not_both alike same (sym is ∙ no)))

-- Both parts and the states.
pub sides_apart : (scope : Scope) (sides : Sides) (always : PartAnswer) (answers : List StateAnswer) (initial states alike : Bool) → alike ≡ (initial && (is_part_alike always && states))
    → OnFalse initial (sides.old.initial ≢ sides.new.initial) → IsPartAnswer scope sides.old.always.now sides.new.always.now always → OnFalse states ((list_any is_open answers ≡ true) ⊎ SidesDiffer scope sides)
    → alike ≡ false → ((is_part_open always || list_any is_open answers) ≡ true) ⊎ SidesDiffer scope sides
sides_apart scope sides always answers initial states alike is first h others e =
    ⊎_elim (λ elsewhere. inr (inl (by_initial (OnFalse_at elsewhere first))))
    (λ rest. ⊎_elim (λ outside. ⊎_elim (λ open_so. inl (first_so (is_part_open always) (list_any is_open answers) open_so)) inr (always_apart scope sides always h outside))
    (λ inside. ⊎_elim (λ open_so. inl (second_so (is_part_open always) (list_any is_open answers) open_so)) inr (OnFalse_at inside others)) (not_both (is_part_alike always) states rest))
    (not_both initial (is_part_alike always && states) (sym is ∙ e))
