-- Guards at any moment: at an opening, and where an evaluation has just led.
use Rattle.std.specs.Prelude.{◌≡◌, false, List, [], Some}
use Rattle.ifs_base.specs.Facts.{Facts}
use Rattle.ifs_base.specs.declared.ids.StateId.{StateId}
use Rattle.ifs_core.specs.declared.step.Step.{Step}
use Rattle.ifs_core.specs.Gateway.{Known}
use Rattle.ifs_gen.specs.Trees.{Policy}
use Rattle.ifs_solver.specs.declared.searching.Extent.{Extent}
use Rattle.ifs_solver.specs.Asking.{Guard, is_met, IsAnswered}
use Rattle.ifs_solver.specs.Situations.{IsKnownFor, situation_after, leads_to}
use Rattle.ifs_claims.specs.Asked.{AreFactsIn}
use Rattle.ifs_claims.specs.Claims.{IsFalseIn, NeverRests}
use Rattle.ifs_claims.specs.Moves.{kept_facts}
use Rattle.ifs_claims.specs.Told.{WouldBe}

-- At every opening in this state the guard is not met.
abbrev pub IsFalseAtOpenings : Policy → StateId → Guard → Type 0
IsFalseAtOpenings policy state guard = (known : Known) → IsKnownFor policy known → IsFalseIn state guard (situation_after policy known [])

-- Where an evaluation has just led to this state, the guard is not met.
abbrev pub IsFalseOnArrival : Policy → StateId → Guard → Type 0
IsFalseOnArrival policy state guard =
    (known : Known) → IsKnownFor policy known → (steps : List Step) (facts : Facts) → AreFactsIn policy (situation_after policy known steps).current facts
    → leads_to policy facts (situation_after policy known steps).current ≡ Some state → is_met (kept_facts policy facts) guard ≡ false

-- If it is met neither at an opening nor on arrival, the guard is not met where an evaluation stays in this state.
abbrev pub IsFalseStaying : Policy → StateId → Guard → Type 0
IsFalseStaying policy state guard = IsFalseAtOpenings policy state guard → IsFalseOnArrival policy state guard → NeverRests policy state guard

-- The answers to these.
abbrev pub IsAtOpenings : Policy → StateId → Guard → Extent → Type 0
IsAtOpenings policy state guard = IsAnswered (IsFalseAtOpenings policy state guard) (WouldBe policy state guard)

abbrev pub IsArriving : Policy → StateId → Guard → Extent → Type 0
IsArriving policy state guard = IsAnswered (IsFalseOnArrival policy state guard) (WouldBe policy state guard)

abbrev pub IsStaying : Policy → StateId → Guard → Extent → Type 0
IsStaying policy state guard = IsAnswered (IsFalseStaying policy state guard) (WouldBe policy state guard)
