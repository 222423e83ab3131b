-- Situations that are gone, one search after the other.
use Rattle.std.proofs.Common.{◌≡◌, ℕ, ◌-◌, ◌⊎◌, ⊎_elim, inl, inr, Bool, true, false, ◌||◌, List, [], ◌∷◌, ◌++◌, refl, sym, ap, ◌∙◌, subst, arith}
use Rattle.std.specs.Prelude.{min}
use Rattle.std.specs.List.{list_any}
use Rattle.std.proofs.lemmas.Bool.{false≢true}
use Rattle.std.proofs.lemmas.List.Folds.{list_any-append}
use Rattle.ifs_compare.specs.declared.effort.Effort.{Effort}
use Rattle.ifs_compare.specs.declared.parts.StateAnswer.{StateAnswer}
use Rattle.ifs_compare.specs.Spent.{IsReduced, IsUsedUp, IsSpent}
use Rattle.ifs_compare.specs.inner.Comparing.{IsSpentAfter, is_open}

pub either_of : (a b : Bool) → (a || b) ≡ true → (a ≡ true) ⊎ (b ≡ true)
either_of true b e = inl refl
either_of false b e = inr e

pub first_so : (a b : Bool) → a ≡ true → (a || b) ≡ true
first_so a b e = ap (λ x. x || b) e

pub second_so : (a b : Bool) → b ≡ true → (a || b) ≡ true
second_so true b e = refl
second_so false b e = e

pub nothing_spent : (e : Effort) → IsReduced e e
nothing_spent e = record { left = omega arith; each = refl }

pub reduced_twice : (a b c : Effort) → IsReduced a b → IsReduced b c → IsReduced a c
reduced_twice a b c h k = let one = h.left in let two = k.left in record { left = omega arith; each = k.each ∙ h.each }

pub used_first : (a b c : Effort) → IsReduced b c → IsUsedUp a b → IsUsedUp a c
used_first a b c h used = let less = h.left in omega arith

pub used_second : (a b c : Effort) → IsReduced a b → IsUsedUp b c → IsUsedUp a c
used_second a b c h used = let less = h.left in let same = h.each in omega arith

-- A search that was given what one pair may look at.
pub spent_by : (a b : Effort) (given left : ℕ) → b.left ≡ a.left - (given - left) → b.each ≡ a.each → IsReduced a b
spent_by a b given left is each = record { left = omega arith; each = each }

pub used_by : (a b : Effort) (given left : ℕ) → given ≡ min a.each a.left → left ≡ 0 → b.left ≡ a.left - (given - left) → IsUsedUp a b
used_by a b given left is nothing spent = omega arith

pub spent_twice : (a b c : Effort) (one other : Bool) → IsSpent a b one → IsSpent b c other → IsSpent a c (one || other)
spent_twice a b c one other h k = record {
  reduced = reduced_twice a b c h.reduced k.reduced;
  used_up = λ e. ⊎_elim (λ first. used_first a b c k.reduced (h.used_up first)) (λ second. used_second a b c h.reduced (k.used_up second)) (either_of one other e);
}

-- An evaluation after the handlers of its state: what is not decided of the body is not decided of the part.
pub spent_on_state : (a b c : Effort) (earlier init body evaluation : Bool) → IsSpent a b (init || body) → IsSpentAfter (earlier || body) b c evaluation → IsSpentAfter earlier a c ((init || body) || evaluation)
spent_on_state a b c earlier init body evaluation h k = record {
  reduced = reduced_twice a b c h.reduced k.reduced;
  used_up = λ e.
      ⊎_elim (λ part. inr (used_first a b c k.reduced (h.used_up part)))
      (λ own. ⊎_elim
      (λ known. ⊎_elim inl (λ of_body. inr (used_first a b c k.reduced (h.used_up (second_so init body of_body)))) (either_of earlier body known))
      (λ used. inr (used_second a b c h.reduced used)) (k.used_up own))
      (either_of (init || body) evaluation e);
}

-- One state after the other.
pub spent_more : (earlier : Bool) (a b c : Effort) (answers : List StateAnswer) (answer : StateAnswer) → IsSpentAfter earlier a b (list_any is_open answers) → IsSpentAfter earlier b c (is_open answer)
    → IsSpentAfter earlier a c (list_any is_open (answers ++ answer ∷ []))
spent_more earlier a b c answers answer h k = record {
  reduced = reduced_twice a b c h.reduced k.reduced;
  used_up = λ e.
      ⊎_elim (λ before. ⊎_elim inl (λ used. inr (used_first a b c k.reduced used)) (h.used_up before))
      (λ own. ⊎_elim inl (λ used. inr (used_second a b c h.reduced used)) (k.used_up (one_of (is_open answer) own)))
      (either_of (list_any is_open answers) (list_any is_open (answer ∷ [])) (sym (list_any-append is_open answers (answer ∷ [])) ∙ e));
}
  where
    one_of : (x : Bool) → (x || false) ≡ true → x ≡ true
    one_of true e = refl
    one_of false e = e

-- The states after the parts outside any state.
pub spent_on_sides : (a b c : Effort) (init body states : Bool) → IsSpent a b (init || body) → IsSpentAfter body b c states → IsSpent a c ((init || body) || states)
spent_on_sides a b c init body states h k = record {
  reduced = reduced_twice a b c h.reduced k.reduced;
  used_up = λ e.
      ⊎_elim (λ part. used_first a b c k.reduced (h.used_up part))
      (λ own. ⊎_elim (λ of_body. used_first a b c k.reduced (h.used_up (second_so init body of_body))) (λ used. used_second a b c h.reduced used) (k.used_up own))
      (either_of (init || body) states e);
}
