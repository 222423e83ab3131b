-- Evaluations that lead to a state while a guard is met.
use Rattle.std.specs.Prelude.{ℕ, ◌≡◌, ◌<◌, false, List, Some}
use Rattle.ifs_base.specs.Facts.{Facts}
use Rattle.ifs_base.specs.declared.ids.StateId.{StateId}
use Rattle.ifs_core.specs.declared.step.Step.{Step}
use Rattle.ifs_core.specs.Gateway.{Known}
use Rattle.ifs_gen.specs.Trees.{Policy}
use Rattle.ifs_solver.specs.declared.searching.Extent.{Extent}
use Rattle.ifs_claims.specs.Asked.{AreFactsIn}
use Rattle.ifs_solver.specs.Situations.{IsKnownFor, situation_after, leads_to}
use Rattle.ifs_claims.specs.Told.{WouldEnter}
use Rattle.ifs_solver.specs.Asking.{Guard, is_met, IsAnswered}

-- Where steps lead to this state, an evaluation leads to the next one only while the guard is not met.
abbrev pub IsQuietFrom : Policy → StateId → Guard → StateId → Type 0
IsQuietFrom policy next guard state =
    (known : Known) → IsKnownFor policy known → (steps : List Step) (facts : Facts) → AreFactsIn policy state facts → (situation_after policy known steps).current ≡ state
    → leads_to policy facts state ≡ Some next → is_met facts guard ≡ false

-- It is so wherever steps lead to.
abbrev pub IsQuietEntry : Policy → StateId → Guard → Type 0
IsQuietEntry policy next guard =
    (known : Known) → IsKnownFor policy known → (steps : List Step) (facts : Facts) → AreFactsIn policy (situation_after policy known steps).current facts
    → leads_to policy facts (situation_after policy known steps).current ≡ Some next → is_met facts guard ≡ false

-- The answers to it, of one state, of the first ones, and of all.
abbrev pub IsFrom : Policy → StateId → Guard → StateId → Extent → Type 0
IsFrom policy next guard state = IsAnswered (IsQuietFrom policy next guard state) (WouldEnter policy next guard)

abbrev pub IsFromBefore : Policy → StateId → Guard → ℕ → Extent → Type 0
IsFromBefore policy next guard count = IsAnswered ((state : StateId) → state.0 < count → IsQuietFrom policy next guard state) (WouldEnter policy next guard)

abbrev pub IsEntering : Policy → StateId → Guard → Extent → Type 0
IsEntering policy next guard = IsAnswered (IsQuietEntry policy next guard) (WouldEnter policy next guard)
