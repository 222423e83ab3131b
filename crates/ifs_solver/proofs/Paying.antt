-- What questions cost of a budget, one after the other.
use Rattle.std.proofs.Common.{◌≡◌, ◌∙◌, ◌⊎◌, ⊎_elim, inl, inr, ◌-◌, List, [], ◌∷◌, ◌++◌, min, refl, sym, subst, arith}
use Rattle.std.specs.Prelude.{Any}
use Rattle.std.proofs.lemmas.List.Elements.{Contains-push_cases}
use Rattle.ifs_solver.specs.declared.answers.Answer.TheVariants as answer
use Rattle.ifs_solver.specs.declared.searching.Budget.{Budget}
use Rattle.ifs_solver.specs.declared.searching.Extent.{Extent}
use Rattle.ifs_solver.specs.declared.searching.Extent.TheVariants.{Somewhere, Nowhere, Undecided}
use Rattle.ifs_solver.specs.Asking.{either}
use Rattle.ifs_solver.specs.Budgets.{IsSpent, IsUsedUp}
use Rattle.ifs_solver.specs.inner.Answering.{condition_answer, command_answer, wish_answer}
use Rattle.ifs_solver.specs.inner.Paying.{IsPaid, IsPaidToo}

-- What is used up stays so.
pub still_used : (b b1 b2 : Budget) → IsSpent b1 b2 → IsUsedUp b b1 → IsUsedUp b b2
still_used b b1 b2 second used = omega (arith, second.left, used)

-- What a later question uses up is used up of the first budget.
pub more_used : (b b1 b2 : Budget) → IsSpent b b1 → IsUsedUp b1 b2 → IsUsedUp b b2
more_used b b1 b2 first used = omega (arith, first.left, first.each, used)

-- What is spent by two questions.
pub spent_by_both : (b b1 b2 : Budget) → IsSpent b b1 → IsSpent b1 b2 → IsSpent b b2
spent_by_both b b1 b2 first second = record { left = omega (arith, first.left, second.left); each = second.each ∙ first.each }

-- Nothing is spent of a budget.
pub unspent : (b : Budget) → IsSpent b b
unspent b = record { left = omega arith; each = refl }

-- A question that may look at so many situations, and did.
pub all_looked_at : (before after : Budget) → after.left ≡ before.left - min before.each before.left → IsUsedUp before after
all_looked_at before after is = omega (arith, is)

pub asked_paid : (before after : Budget) (extent : Extent) → IsSpent before after → (extent ≡ Undecided → after.left ≡ before.left - min before.each before.left) → IsPaid before after extent
asked_paid before after extent spent undecided = record { spent = spent; undecided = λ e. all_looked_at before after (undecided e) }

-- No question.
pub nothing_paid : (b : Budget) → IsPaid b b Nowhere
nothing_paid b = record { spent = unspent b; undecided = λ e. cc }

-- Two questions.
both_used : (b b1 b2 : Budget) (first second : Extent) → IsPaid b b1 first → IsPaid b1 b2 second → (first ≡ Undecided) ⊎ (second ≡ Undecided) → IsUsedUp b b2
both_used b b1 b2 first second one two which =
    ⊎_elim (λ e. still_used b b1 b2 two.spent (one.undecided e)) (λ e. more_used b b1 b2 one.spent (two.undecided e)) which

one_undecided : (first second : Extent) → either first second ≡ Undecided → (first ≡ Undecided) ⊎ (second ≡ Undecided)
one_undecided Somewhere second e = cc
one_undecided Nowhere second e = inr e
one_undecided Undecided second e = inl refl

pub paid_by_both : (b b1 b2 : Budget) (first second : Extent) → IsPaid b b1 first → IsPaid b1 b2 second → IsPaid b b2 (either first second)
paid_by_both b b1 b2 first second one two = record {
  spent = spent_by_both b b1 b2 one.spent two.spent;
  undecided = λ e. both_used b b1 b2 first second one two (one_undecided first second e);
}

pub paid_too : (before after : Budget) (extent more : Extent) → IsPaid before after more → IsPaidToo before after extent (either extent more)
paid_too before after extent more two given one = paid_by_both given before after extent more one two

-- The answers.
condition_undecided : (truth_at falsehood : Extent) → condition_answer truth_at falsehood ≡ answer.Undecided → (truth_at ≡ Undecided) ⊎ (falsehood ≡ Undecided)
condition_undecided Undecided falsehood e = inl refl
condition_undecided Nowhere Undecided e = inr refl
condition_undecided Somewhere Undecided e = inr refl
condition_undecided Nowhere Nowhere e = cc
condition_undecided Nowhere Somewhere e = cc
condition_undecided Somewhere Nowhere e = cc
condition_undecided Somewhere Somewhere e = cc

pub condition_paid : (b b1 b2 : Budget) (truth_at falsehood : Extent) → IsPaid b b1 truth_at → IsPaid b1 b2 falsehood → condition_answer truth_at falsehood ≡ answer.Undecided → IsUsedUp b b2
condition_paid b b1 b2 truth_at falsehood one two e = both_used b b1 b2 truth_at falsehood one two (condition_undecided truth_at falsehood e)

command_undecided : (reached : Extent) → command_answer reached ≡ answer.Undecided → reached ≡ Undecided
command_undecided Undecided e = refl
command_undecided Nowhere e = cc
command_undecided Somewhere e = cc

pub command_paid : (b b1 : Budget) (reached : Extent) → IsPaid b b1 reached → command_answer reached ≡ answer.Undecided → IsUsedUp b b1
command_paid b b1 reached one e = one.undecided (command_undecided reached e)

wish_undecided : (reached last : Extent) → wish_answer reached last ≡ answer.Undecided → (reached ≡ Undecided) ⊎ (last ≡ Undecided)
wish_undecided Undecided last e = inl refl
wish_undecided Somewhere Undecided e = inr refl
wish_undecided Somewhere Nowhere e = cc
wish_undecided Somewhere Somewhere e = cc
wish_undecided Nowhere last e = cc

pub wish_paid : (b b1 b2 : Budget) (reached last : Extent) → IsPaid b b1 reached → IsPaid b1 b2 last → wish_answer reached last ≡ answer.Undecided → IsUsedUp b b2
wish_paid b b1 b2 reached last one two e = both_used b b1 b2 reached last one two (wish_undecided reached last e)

-- One more member.
pub any_push_cases : {X : Type 0} (P : X → Type 0) (xs : List X) (x : X) → Any P (xs ++ x ∷ []) → Any P xs ⊎ P x
any_push_cases P xs x any =
    let y = any.1 in
    ⊎_elim (λ c. inl (c.0, y, c.1, c.2, any.4)) (λ e. inr (subst P (sym e) any.4)) (Contains-push_cases xs x y (any.0, any.2, any.3))
