-- Parts, states and policies that are said to be the same.
use Rattle.std.proofs.Common.{◌≡◌, ℕ, ◌+◌, ◌<◌, ◌≤◌, ⊎_elim, Bool, true, false, ◌&&◌, List, length, get_or, Some, refl, sym, ap, ◌∙◌, subst, arith}
use Rattle.std.specs.Prelude.{slice_get}
use Rattle.std.proofs.lemmas.Option.{same_Some, slice_get_within, slice_get-get_or}
use Rattle.std.specs.Bool.{OnTrue}
use Rattle.std.proofs.lemmas.Bool.{false≢true, cases_order, OnTrue_at}
use Rattle.ifs_base.specs.Facts.{Facts}
use Rattle.ifs_base.specs.Effects.{Effects, followed}
use Rattle.ifs_base.specs.declared.ids.StateId.{StateId}
use Rattle.ifs_policy.specs.Meaning.{Block, init_yield, body_yield}
use Rattle.ifs_gen.specs.Trees.{Part, Policy}
use Rattle.ifs_gen.specs.PlainSizes.{mask_of_part, room_of}
use Rattle.ifs_solver.specs.declared.fact_sets.Scope.{Scope}
use Rattle.ifs_solver.specs.FactSets.{without}
use Rattle.ifs_compare.specs.declared.answering.Answer.{Answer}
use Rattle.ifs_compare.specs.declared.answering.Answer.TheVariants as answer
use Rattle.ifs_compare.specs.declared.parts.PartAnswer.{PartAnswer}
use Rattle.ifs_compare.specs.declared.parts.StateAnswer.{StateAnswer}
use Rattle.ifs_compare.specs.declared.renumbering.Renumbered.{Renumbered}
use Rattle.ifs_compare.specs.declared.sides.Side.{Side}
use Rattle.ifs_compare.specs.declared.sides.Sides.{Sides}
use Rattle.ifs_solver.specs.Reaching.{settled, evaluation_yield}
use Rattle.ifs_compare.specs.Alike.{ArePartsAlike, IsStateAlike, AreStatesAlike, IsTheSame}
use Rattle.ifs_compare.specs.inner.Comparing.{AgreeOn, IsAnswer, is_same, IsPartAnswer, IsStateAnswer, IsNumberedAnswer, is_part_alike, is_alike, AreFirstAlike}
use Rattle.ifs_compare.specs.inner.Comparing.{AreSidesAlike, IsSameButRoom, AreOfPolicy, AreOfRenumbered}

-- Parts that are said to do the same.
same_answer : (scope : Scope) (one other : Facts → Effects) (a : Answer) → is_same a ≡ true → IsAnswer scope one other a → AgreeOn scope one other
same_answer scope one other answer.Same e h = h
same_answer scope one other (answer.Different range) e h = absurd (false≢true e)
same_answer scope one other answer.Undecided e h = absurd (false≢true e)

pub first_of : (a b : Bool) → (a && b) ≡ true → a ≡ true
first_of true b e = refl
first_of false b e = e

pub second_of : (a b : Bool) → (a && b) ≡ true → b ≡ true
second_of true b e = e
second_of false b e = absurd (false≢true e)

-- Evaluations whose bodies do the same one by one.
pub same_evaluations : (scope : Scope) (state : StateId) (always of_other one other : Block) (outside inside : Answer) → is_same outside ≡ true → is_same inside ≡ true
    → IsAnswer scope (λ facts. body_yield facts always) (λ facts. body_yield facts of_other) outside → IsAnswer scope (λ facts. body_yield facts one) (λ facts. body_yield facts other) inside
    → AgreeOn scope (evaluation_yield state always one) (evaluation_yield state of_other other)
same_evaluations scope state always of_other one other outside inside e f h k = λ facts are.
    ap (λ x. settled state (followed x (body_yield facts one))) (same_answer scope _ _ outside e h facts are)
    ∙ ap (λ x. settled state (followed (body_yield facts of_other) x)) (same_answer scope _ _ inside f k facts are)

parts_alike : (scope : Scope) (one other : Part) (a : PartAnswer) → IsPartAnswer scope one other a → is_part_alike a ≡ true → ArePartsAlike scope one other
parts_alike scope one other a h e = record {
  init = same_answer scope _ _ a.init (first_of (is_same a.init) a.active e) h.init;
  active = OnTrue_at (second_of (is_same a.init) a.active e) h.active;
}

state_alike : (scope : Scope) (state : StateId) (always of_other one other : Part) (a : StateAnswer) → IsStateAnswer scope state always of_other one other a → is_alike a ≡ true
    → IsStateAlike scope state always of_other one other
state_alike scope state always of_other one other a h e = record {
  part = parts_alike scope one other a.part h.part (second_of (is_same a.evaluation) (is_part_alike a.part) e);
  evaluation = same_answer scope _ _ a.evaluation (first_of (is_same a.evaluation) (is_part_alike a.part) e) h.evaluation;
}

pub at_index : {X : Type 0} (xs : List X) (i : ℕ) (x : X) → i < length xs → x ≡ get_or xs i x → slice_get xs i ≡ Some x
at_index xs i x lt is = slice_get-get_or xs i x lt ∙ ap (λ y. Some y) (sym is)

-- A state by its number.
pub numbered : (scope : Scope) (sides : Sides) (state : StateId) (index : ℕ) (one other : Part) (a : StateAnswer) → state.0 ≡ index → slice_get sides.old.states.now index ≡ Some one
    → slice_get sides.new.states.now index ≡ Some other → IsStateAnswer scope state sides.old.always.now sides.new.always.now one other a → IsNumberedAnswer scope sides index a
numbered scope sides state index one other a is at there h same x y same_is x_at y_at =
    let other_state : state ≡ same = ap (λ n. record { 0 = n }) (is ∙ sym same_is) in
    subst (λ s. IsStateAnswer scope s sides.old.always.now sides.new.always.now x y a) other_state
    (subst (λ p. IsStateAnswer scope state sides.old.always.now sides.new.always.now p y a) (same_Some one x (sym at ∙ x_at))
    (subst (λ p. IsStateAnswer scope state sides.old.always.now sides.new.always.now one p a) (same_Some other y (sym there ∙ y_at)) h))

-- The first states.
pub none_first : (scope : Scope) (always of_other : Part) (old new : List Part) → AreFirstAlike scope always of_other old new 0
none_first scope always of_other old new state one other lt e f = absurd (omega (arith, lt))

pub one_more_first : (scope : Scope) (sides : Sides) (n : ℕ) (a : StateAnswer) → IsNumberedAnswer scope sides n a → is_alike a ≡ true
    → AreFirstAlike scope sides.old.always.now sides.new.always.now sides.old.states.now sides.new.states.now n
    → AreFirstAlike scope sides.old.always.now sides.new.always.now sides.old.states.now sides.new.states.now (n + 1)
one_more_first scope sides n a h e first state x y lt is also =
    ⊎_elim
    (λ same.
    state_alike scope state sides.old.always.now sides.new.always.now x y a (h state x y same (ap (slice_get sides.old.states.now) (sym same) ∙ is) (ap (slice_get sides.new.states.now) (sym same) ∙ also)) e)
    (λ apart. ⊎_elim (λ less. first state x y less is also) (λ more. absurd (omega (arith, lt, more))) apart)
    (cases_order state.0 n)

pub all_first : (scope : Scope) (always of_other : Part) (old new : List Part) (n : ℕ) → length old ≡ length new → length old ≤ n → AreFirstAlike scope always of_other old new n
    → AreStatesAlike scope always of_other old new
all_first scope always of_other old new n same le first = record {
  count = same;
  each = λ state one other is also. let within = slice_get_within old state.0 one is in first state one other (omega (arith, within, le)) is also;
}

-- Two policies over the same tables.
pub sides_alike : (scope : Scope) (first second : StateId) (one other : Part) (old new : List Part) (always : PartAnswer) (initial states : Bool) → OnTrue initial (first ≡ second) → IsPartAnswer scope one other always
    → OnTrue states (AreStatesAlike scope one other old new) → (initial && (is_part_alike always && states)) ≡ true → AreSidesAlike scope first second one other old new
sides_alike scope first second one other old new always initial states h k l e =
    let rest = second_of initial (is_part_alike always && states) e in
    record {
      initial = OnTrue_at (first_of initial (is_part_alike always && states) e) h;
      always = parts_alike scope one other always k (first_of (is_part_alike always) states rest);
      states = OnTrue_at (second_of (is_part_alike always) states rest) l;
    }

pub of_sides : (scope : Scope) (one other : Side) (old : Policy) (made : Renumbered) → AreOfPolicy one old → AreOfRenumbered other made
    → AreSidesAlike scope one.initial other.initial one.always.now other.always.now one.states.now other.states.now → AreSidesAlike scope old.initial made.initial old.always made.always old.states made.states
of_sides scope one other old made of_old of_made h = record {
  initial = sym of_old.initial ∙ h.initial ∙ of_made.initial;
  always = subst (λ p. ArePartsAlike scope p made.always) of_old.always (subst (ArePartsAlike scope one.always.now) of_made.always h.always);
  states =
      subst (λ p. AreStatesAlike scope p made.always old.states made.states) of_old.always
      (subst (λ p. AreStatesAlike scope one.always.now p old.states made.states) of_made.always
      (subst (λ ps. AreStatesAlike scope one.always.now other.always.now ps made.states) of_old.states
      (subst (λ ps. AreStatesAlike scope one.always.now other.always.now one.states.now ps) of_made.states h.states)));
}
