-- Answers that are not the same: something is not decided, or differs.
use Rattle.std.proofs.Common.{◌≡◌, ℕ, ◌+◌, ◌<◌, ◌⊎◌, ⊎_elim, inl, inr, Bool, true, false, ◌&&◌, ◌||◌, List, [], ◌∷◌, ◌++◌, length, Some, refl, sym, ap, ◌∙◌, subst, arith}
use Rattle.std.specs.Prelude.{slice_get}
use Rattle.std.specs.Bool.{OnTrue, OnFalse}
use Rattle.std.specs.List.{list_any}
use Rattle.std.proofs.lemmas.Bool.{false≢true, true≢false, cases_order, OnTrue_at, OnFalse_at}
use Rattle.ifs_base.specs.Facts.{Facts}
use Rattle.ifs_base.specs.Effects.{Effects}
use Rattle.ifs_base.specs.declared.ids.StateId.{StateId}
use Rattle.ifs_gen.specs.Trees.{Part}
use Rattle.ifs_solver.specs.declared.fact_sets.Scope.{Scope}
use Rattle.ifs_solver.specs.FactSets.{FactSet}
use Rattle.ifs_compare.specs.declared.answering.Answer.{Answer}
use Rattle.ifs_compare.specs.declared.answering.Answer.TheVariants as answer
use Rattle.ifs_compare.specs.declared.parts.PartAnswer.{PartAnswer}
use Rattle.ifs_compare.specs.declared.parts.StateAnswer.{StateAnswer}
use Rattle.ifs_compare.specs.declared.sides.Sides.{Sides}
use Rattle.ifs_compare.specs.Differing.{Blocks, DifferOn, ArePartsOf, AreApart, by_initial, by_count, by_tests, by_tests_in, HandlersDiffer, in_opening, in_init, in_evaluation}
use Rattle.ifs_compare.specs.inner.Comparing.{IsAnswer, IsDifference, IsRangeOf, IsSame, both_same, both_different, both_undecided, IsWithin, IsPartAnswer, IsStateAnswer, IsNumberedAnswer, SidesDiffer, blocks_in, is_same, is_undecided, is_part_open, is_open, is_part_alike, is_alike}
use Rattle.ifs_compare.proofs.Spending.{first_so, second_so}

pub not_both : (a b : Bool) → (a && b) ≡ false → (a ≡ false) ⊎ (b ≡ false)
not_both true b e = inr e
not_both false b e = inl refl

pub differ_on : (scope : Scope) (range : FactSet) (one other : Facts → Effects) → IsDifference scope range one other → DifferOn scope one other
differ_on scope range one other h = record { facts = h.differ.facts; are = h.is_of.are h.differ.facts h.differ.within; differ = h.differ.differ }

pub answer_apart : (scope : Scope) (one other : Facts → Effects) (a : Answer) → IsAnswer scope one other a → is_same a ≡ false → (is_undecided a ≡ true) ⊎ DifferOn scope one other
answer_apart scope one other answer.Same h e = absurd (true≢false e)
answer_apart scope one other (answer.Different range) h e = inr (differ_on scope _ one other h)
answer_apart scope one other answer.Undecided h e = inl refl

-- The range of an answer.
pub answer_within : (scope : Scope) (one other : Facts → Effects) (a : Answer) → IsAnswer scope one other a → IsWithin scope a
answer_within scope one other answer.Same h = tt
answer_within scope one other (answer.Different range) h = h.is_of
answer_within scope one other answer.Undecided h = tt

pub same_within : (scope : Scope) (a b : Answer) → IsWithin scope a → IsSame a b → IsWithin scope b
same_within scope a b h both_same = tt
same_within scope a b h (both_different range copy is) = subst (IsRangeOf scope) (sym is) h
same_within scope a b h both_undecided = tt

-- The parts outside any state.
pub always_apart : (scope : Scope) (sides : Sides) (a : PartAnswer) → IsPartAnswer scope sides.old.always.now sides.new.always.now a → is_part_alike a ≡ false → (is_part_open a ≡ true) ⊎ SidesDiffer scope sides
always_apart scope sides a h e =
    ⊎_elim
    (λ init. ⊎_elim (λ open_so. inl (first_so (is_undecided a.init) (is_undecided a.body) open_so)) (λ differ. inr (inr (in_opening differ))) (answer_apart scope _ _ a.init h.init init))
    (λ active. inr (inl (by_tests (OnFalse_at active h.apart))))
    (not_both (is_same a.init) a.active e)

-- A state.
pub state_apart : (scope : Scope) (sides : Sides) (state : StateId) (one other : Part) (a : StateAnswer) → ArePartsOf (blocks_in sides.old) (blocks_in sides.new) state one other
    → IsStateAnswer scope state sides.old.always.now sides.new.always.now one other a → is_alike a ≡ false → (is_open a ≡ true) ⊎ SidesDiffer scope sides
state_apart scope sides state one other a parts h e =
    let part = is_part_open a.part in
    ⊎_elim
    (λ own. ⊎_elim (λ open_so. inl (second_so part (is_undecided a.evaluation) open_so)) (λ differ. inr (inr (in_evaluation state one other parts differ))) (answer_apart scope _ _ a.evaluation h.evaluation own))
    (λ rest. ⊎_elim
    (λ init. ⊎_elim (λ open_so. inl (first_so part (is_undecided a.evaluation) (first_so (is_undecided a.part.init) (is_undecided a.part.body) open_so))) (λ differ. inr (inr (in_init state one other parts differ)))
    (answer_apart scope _ _ a.part.init h.part.init init))
    (λ active. inr (inl (by_tests_in state one other parts (OnFalse_at active h.part.apart))))
    (not_both (is_same a.part.init) a.part.active rest))
    (not_both (is_same a.evaluation) (is_part_alike a.part) e)

-- The state with this number.
pub numbered_apart : (scope : Scope) (sides : Sides) (index : ℕ) (one other : Part) (a : StateAnswer) → slice_get sides.old.states.now index ≡ Some one → slice_get sides.new.states.now index ≡ Some other
    → IsNumberedAnswer scope sides index a → is_alike a ≡ false → (is_open a ≡ true) ⊎ SidesDiffer scope sides
numbered_apart scope sides index one other a at there h e =
    state_apart scope sides (record { 0 = index }) one other a (record { before = at; after = there }) (h (record { 0 = index }) one other refl at there) e
