-- Where a policy settles, state by state.
use Rattle.std.specs.Prelude.{ℕ, ◌≡◌, ◌<◌, List}
use Rattle.ifs_base.specs.declared.ids.StateId.{StateId}
use Rattle.ifs_gen.specs.Trees.{Policy}
use Rattle.ifs_solver.specs.declared.searching.Extent.{Extent}
use Rattle.ifs_solver.specs.Situations.{HoldsAfterSteps}
use Rattle.ifs_claims.specs.Claims.{IsRestIn, NeverSettles}
use Rattle.ifs_claims.specs.Told.{WouldSettle, WouldRestElsewhere}
use Rattle.ifs_solver.specs.Asking.{Guard, IsAnswered}

-- The answer to whether a policy settles in a state.
abbrev pub IsSettling : Policy → StateId → Guard → Extent → Type 0
IsSettling policy state guard = IsAnswered (NeverSettles policy state guard) (WouldSettle policy state guard)

-- In this state the claim holds after any steps.
abbrev pub HoldsIn : Policy → List StateId → Guard → StateId → Type 0
HoldsIn policy states guard state = HoldsAfterSteps policy (λ s. s.current ≡ state → IsRestIn policy states guard s)

-- The answers to whether it settles there, and the state is not among some: of one state, and of the first ones.
abbrev pub IsElsewhere : Policy → List StateId → Guard → StateId → Extent → Type 0
IsElsewhere policy states guard state = IsAnswered (HoldsIn policy states guard state) (WouldRestElsewhere policy states guard)

abbrev pub IsElsewhereBefore : Policy → List StateId → Guard → ℕ → Extent → Type 0
IsElsewhereBefore policy states guard count =
    IsAnswered ((state : StateId) → state.0 < count → HoldsIn policy states guard state) (WouldRestElsewhere policy states guard)
