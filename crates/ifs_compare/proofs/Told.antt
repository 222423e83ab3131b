-- What is said of two policies, one thing after the other.
use Rattle.std.proofs.Common.{◌≡◌, ◌≢◌, ℕ, zero, suc, ◌<◌, ◌⊎◌, ⊎_elim, inl, inr, Bool, true, false, ◌&&◌, ◌||◌, List, [], ◌∷◌, length, map, Some, refl, sym, ap, ◌∙◌, subst}
use Rattle.std.specs.Prelude.{slice_get}
use Rattle.std.specs.List.{list_any}
use Rattle.std.proofs.lemmas.Option.{none-some, same_Some}
use Rattle.ifs_base.specs.declared.ids.StateId.{StateId}
use Rattle.ifs_gen.specs.Trees.{Part}
use Rattle.ifs_compare.specs.declared.answers.Compared.{Compared}
use Rattle.ifs_compare.specs.declared.answers.Difference.{Difference}
use Rattle.ifs_compare.specs.declared.parts.StateAnswer.{StateAnswer}
use Rattle.ifs_compare.specs.declared.reporting.Case.{Case}
use Rattle.ifs_compare.specs.Differing.{ArePartsOf, in_opening, in_init, in_evaluation}
use Rattle.ifs_compare.specs.inner.Comparing.{IsJudged, blocks_in, is_same, is_undecided, is_part_open, is_open}
use Rattle.ifs_compare.specs.inner.Reporting.{Differ, IsLeft, IsMore, IsTold}
use Rattle.ifs_compare.proofs.Apart.{answer_apart}
use Rattle.ifs_compare.proofs.Spending.{first_so, second_so}

pub more_twice : (P : Type 0) (a b c : List Difference) → IsMore P a b → IsMore P b c → IsMore P a c
more_twice P a b c h k lt = ⊎_elim h inr (k lt)

pub told_twice : (case : Case) (a b c : Compared) → IsTold case a b → IsTold case b c → IsTold case a c
told_twice case a b c h k = record {
  differences = more_twice (Differ case) a.differences.items b.differences.items c.differences.items h.differences k.differences;
  undecided = more_twice (IsLeft case) a.undecided.items b.undecided.items c.undecided.items h.undecided k.undecided;
}

-- A member that passes.
any_member : {X : Type 0} (p : X → Bool) (xs : List X) (i : ℕ) (x : X) → slice_get xs i ≡ Some x → p x ≡ true → list_any p xs ≡ true
any_member p [] i x at is = absurd (none-some x at)
any_member p (y ∷ ys) zero x at is = first_so (p y) (list_any p ys) (ap p (same_Some y x at) ∙ is)
any_member p (y ∷ ys) (suc i) x at is = second_so (p y) (list_any p ys) (any_member p ys i x at is)

-- What is not said to be the same is left.
module _ (case : Case) (h : IsJudged case.stage.scope case.stage.sides case.judged.now) where
  pub left_opening : is_same case.judged.now.always.init ≡ false → IsLeft case
  left_opening e =
      let always = case.judged.now.always in
      ⊎_elim (λ is. inl (first_so (is_part_open always) (list_any is_open case.judged.now.states.items) (first_so (is_undecided always.init) (is_undecided always.body) is))) (λ differ. inr (in_opening differ))
      (answer_apart case.stage.scope _ _ always.init h.always.init e)

  module _ (state : StateId) (answer : StateAnswer) (at : slice_get case.judged.now.states.items state.0 ≡ Some answer) (one other : Part) (parts : ArePartsOf (blocks_in case.stage.sides.old) (blocks_in case.stage.sides.new) state one other) where
    left_state : is_open answer ≡ true → IsLeft case
    left_state is = inl (second_so (is_part_open case.judged.now.always) (list_any is_open case.judged.now.states.items) (any_member is_open case.judged.now.states.items state.0 answer at is))

    pub left_init : is_same answer.part.init ≡ false → IsLeft case
    left_init e =
        ⊎_elim (λ is. left_state (first_so (is_part_open answer.part) (is_undecided answer.evaluation) (first_so (is_undecided answer.part.init) (is_undecided answer.part.body) is))) (λ differ. inr (in_init state one other parts differ))
        (answer_apart case.stage.scope _ _ answer.part.init (h.states state.0 answer at state one other refl parts.before parts.after).part.init e)

    pub left_evaluation : is_same answer.evaluation ≡ false → IsLeft case
    left_evaluation e =
        ⊎_elim (λ is. left_state (second_so (is_part_open answer.part) (is_undecided answer.evaluation) is)) (λ differ. inr (in_evaluation state one other parts differ))
        (answer_apart case.stage.scope _ _ answer.evaluation (h.states state.0 answer at state one other refl parts.before parts.after).evaluation e)
