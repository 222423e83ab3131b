-- Answers about several things.
use Rattle.std.proofs.Common.{◌≡◌, ◌+◌, ◌<◌, ⊎_elim, sym, ap, subst, arith}
use Rattle.std.proofs.lemmas.Bool.{cases_eq}
use Rattle.ifs_base.specs.declared.ids.StateId.{StateId}
use Rattle.ifs_solver.specs.declared.searching.Extent.{Extent}
use Rattle.ifs_solver.specs.declared.searching.Extent.TheVariants.{Somewhere, Nowhere, Undecided}
use Rattle.ifs_solver.specs.Asking.{IsAnswered, either}

pub same_state : (a b : StateId) → a.0 ≡ b.0 → a ≡ b
same_state a b e = ap (λ n. let state : StateId = record { 0 = n } in state) e

pub answered_by : (P Q B : Type 0) (extent : Extent) → (P → Q) → IsAnswered P B extent → IsAnswered Q B extent
answered_by P Q B Somewhere f h = h
answered_by P Q B Nowhere f h = f h
answered_by P Q B Undecided f h = tt

-- The same where what is found shows more.
pub answered_of : (P Q B C : Type 0) (extent : Extent) → (P → Q) → (B → C) → IsAnswered P B extent → IsAnswered Q C extent
answered_of P Q B C Somewhere f g h = g h
answered_of P Q B C Nowhere f g h = f h
answered_of P Q B C Undecided f g h = tt

pub answered_both : (P Q B : Type 0) (one two : Extent) → IsAnswered P B one → IsAnswered Q B two → IsAnswered (P × Q) B (either one two)
answered_both P Q B Somewhere two h k = h
answered_both P Q B Nowhere Somewhere h k = k
answered_both P Q B Nowhere Nowhere h k = (h, k)
answered_both P Q B Nowhere Undecided h k = tt
answered_both P Q B Undecided Somewhere h k = k
answered_both P Q B Undecided Nowhere h k = tt
answered_both P Q B Undecided Undecided h k = tt

-- Of one more state.
pub answered_next : (B : Type 0) (P : StateId → Type 0) (state : StateId) (one two : Extent) → IsAnswered ((other : StateId) → other.0 < state.0 → P other) B one → IsAnswered (P state) B two
    → IsAnswered ((other : StateId) → other.0 < state.0 + 1 → P other) B (either one two)
answered_next B P state one two h k =
    answered_by (((other : StateId) → other.0 < state.0 → P other) × P state) ((other : StateId) → other.0 < state.0 + 1 → P other) B (either one two)
    (λ both other lt. ⊎_elim (λ e. subst P (same_state state other (sym e)) both.1) (λ differ. let d : other.0 ≡ state.0 → ⊥ = differ in both.0 other (omega (arith, d, lt))) (cases_eq other.0 state.0))
    (answered_both ((other : StateId) → other.0 < state.0 → P other) (P state) B one two h k)

pub told_of : (P B : Type 0) (extent told : Extent) → told ≡ extent → IsAnswered P B extent → IsAnswered P B told
told_of P B extent told is h = subst (IsAnswered P B) (sym is) h
