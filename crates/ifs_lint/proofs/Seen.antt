-- Answers that say no more than right ones are right.
use Rattle.std.proofs.Common.{◌≡◌, ℕ, zero, suc, ◌+◌, ◌<◌, ◌⊎◌, ⊎_elim, List, [], ◌∷◌, ◌++◌, length, get_or, take, Some, refl, sym, ap, ◌∙◌, subst}
use Rattle.std.specs.Prelude.{slice_get}
use Rattle.std.proofs.lemmas.List.{take_more}
use Rattle.std.proofs.lemmas.Option.{none-some, same_Some}
use Rattle.ifs_base.specs.declared.ids.StateId.{StateId}
use Rattle.ifs_policy.specs.declared.policy.PolicyParts.{PolicyParts}
use Rattle.ifs_solver.specs.declared.answers.Answer.{Answer}
use Rattle.ifs_solver.specs.declared.touring.StateAnswer.{StateAnswer}
use Rattle.ifs_solver.specs.FactSets.{scope_of}
use Rattle.ifs_solver.specs.Places.{AreAnswers, places_of}
use Rattle.ifs_solver.specs.Situations.{AreStateAnswers, IsEntryOf, IsExitOf, IsStateAnswer}
use Rattle.ifs_solver.proofs.Adding.{zip_push}
use Rattle.ifs_lint.specs.Told.{Tells}
use Rattle.ifs_lint.specs.declared.linting.Linted.{Linted}
use Rattle.ifs_lint.specs.inner.Seen.{SayLess, SaysLess, SaysLessOfStates}

-- One more answer.
pub less_more : (answers seen : List StateAnswer) (i : ℕ) (answer less : StateAnswer) → i < length answers → SayLess (take i answers) seen → SaysLess (get_or answers i answer) less → SayLess (take (i + 1) answers) (seen ++ less ∷ [])
less_more answers seen i answer less lt h says =
    subst (λ first. SayLess first (seen ++ less ∷ [])) (sym (take_more answers i answer lt)) (zip_push SaysLess (take i answers) seen (get_or answers i answer) less h says)

same_many : (answers seen : List StateAnswer) → SayLess answers seen → length seen ≡ length answers
same_many [] [] h = refl
same_many [] (less ∷ seen) h = absurd h
same_many (answer ∷ answers) [] h = absurd h
same_many (answer ∷ answers) (less ∷ seen) h = ap suc (same_many answers seen h.1)

answer_at : (answers seen : List StateAnswer) (k : ℕ) (less : StateAnswer) → SayLess answers seen → slice_get seen k ≡ Some less → (answer : StateAnswer) × (slice_get answers k ≡ Some answer) × SaysLess answer less
answer_at [] [] k less h e = absurd (none-some less e)
answer_at [] (other ∷ seen) k less h e = absurd h
answer_at (answer ∷ answers) [] k less h e = absurd h
answer_at (answer ∷ answers) (other ∷ seen) zero less h e = (answer, refl, subst (SaysLess answer) (same_Some other less e) h.0)
answer_at (answer ∷ answers) (other ∷ seen) (suc k) less h e = answer_at answers seen k less h.1 e

less_right : (policy : PolicyParts) (state : StateId) (answer less : StateAnswer) → SaysLess answer less → IsStateAnswer policy state answer → IsStateAnswer policy state less
less_right policy state answer less says right = record {
  entered = ⊎_elim (λ same. subst (IsEntryOf policy state) (sym same) right.entered) (λ open_is. subst (IsEntryOf policy state) (sym open_is) tt) says.entered;
  left = subst (IsExitOf policy state) (sym says.left) right.left;
}

pub seen_right : (policy : PolicyParts) (answers seen : List StateAnswer) → AreStateAnswers policy answers → SayLess answers seen → AreStateAnswers policy seen
seen_right policy answers seen right says = record {
  count = same_many answers seen says ∙ right.count;
  each = λ k less e.
      let at = answer_at answers seen k less says e in
      less_right policy (record { 0 = k }) at.0 less at.2 (right.each k at.0 at.1);
}

pub tells_less : (policy : PolicyParts) (answers kept : List Answer) (states kept_states : List StateAnswer) (linted : Linted) → AreAnswers (scope_of policy) (places_of policy) answers → kept ≡ answers → AreStateAnswers policy states → kept_states ≡ states
    → SaysLessOfStates kept kept_states linted → Tells policy linted
tells_less policy answers kept states kept_states linted right kept_is right_states states_are says = record {
  answers = kept;
  right = subst (AreAnswers (scope_of policy) (places_of policy)) (sym kept_is) right;
  state_answers = says.seen;
  right_states = seen_right policy kept_states says.seen (subst (AreStateAnswers policy) (sym states_are) right_states) says.less;
  says = says.says;
}
