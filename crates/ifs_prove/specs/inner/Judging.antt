-- Claims on several states or commands, one by one.
use Rattle.std.specs.Prelude.{◌≡◌, ◌⊎◌, List, All}
use Rattle.ifs_base.specs.declared.ids.CommandId.{CommandId}
use Rattle.ifs_base.specs.declared.ids.StateId.{StateId}
use Rattle.ifs_solver.specs.declared.searching.Budget.{Budget}
use Rattle.ifs_solver.specs.declared.searching.Extent.{Extent}
use Rattle.ifs_solver.specs.declared.searching.Extent.TheVariants.{Undecided}
use Rattle.ifs_solver.specs.Asking.{Guard, IsAnswered}
use Rattle.ifs_solver.specs.Situations.{IsNeverEntered, IsLedTo}
use Rattle.ifs_claims.specs.Claims.{NeverSettles, NeverIn, NeverEntersWhile, NeverFrom, NeverRuns}
use Rattle.ifs_claims.specs.Moves.{Moves}
use Rattle.ifs_claims.specs.Told.{IsMissing, WouldSettle, WouldBe, WouldEnter, WouldRun}
use Rattle.ifs_solver.specs.Budgets.{IsUsedUp}
use Rattle.ifs_gen.specs.Trees.{Policy}
use Rattle.ifs_prove.specs.Claiming.{IsOneOf, guard_in}
use Rattle.ifs_prove.specs.declared.judging.Denied.{Denied}
use Rattle.ifs_prove.specs.declared.judging.Denied.TheVariants.{Settling, Moment, Entry, EntryWhile, MoveFrom}

-- What is denied of a state is never so.
abbrev pub IsNever : Policy → Denied → StateId → Type 0
IsNever policy (Settling premise) state = NeverSettles policy state (guard_in premise.now)
IsNever policy (Moment premise) state = NeverIn policy state (guard_in premise.now)
IsNever policy Entry state = IsNeverEntered policy state
IsNever policy (EntryWhile premise) state = NeverEntersWhile policy state (guard_in premise.now)
IsNever policy (MoveFrom previous) state = NeverFrom policy previous state

-- Some facts would make it so.
abbrev pub WouldBeSo : Policy → Denied → StateId → Type 0
WouldBeSo policy (Settling premise) state = WouldSettle policy state (guard_in premise.now)
WouldBeSo policy (Moment premise) state = WouldBe policy state (guard_in premise.now)
WouldBeSo policy Entry state = IsLedTo policy state
WouldBeSo policy (EntryWhile premise) state = WouldEnter policy state (guard_in premise.now)
WouldBeSo policy (MoveFrom previous) state = Moves policy previous state

-- It has no answer although the budget is not used up.
abbrev pub IsOpenOf : Policy → Denied → StateId → Type 0
IsOpenOf policy (Settling premise) state = IsMissing policy state
IsOpenOf policy (Moment premise) state = IsMissing policy state
IsOpenOf policy Entry state = Unit {0}
IsOpenOf policy (EntryWhile premise) state = ⊥
IsOpenOf policy (MoveFrom previous) state = IsMissing policy previous ⊎ (previous.0 ≡ state.0)

-- If there is no answer, the budget is used up, or one of some values has none otherwise.
abbrev pub IsOpenFor : {X : Type 0} → List X → (X → Type 0) → Budget → Budget → Extent → Type 0
IsOpenFor values O before after told = told ≡ Undecided → IsUsedUp before after ⊎ IsOneOf values O

-- The answer of one state.
abbrev pub IsToldOf : Policy → Denied → StateId → Extent → Type 0
IsToldOf policy denied state = IsAnswered (IsNever policy denied state) (WouldBeSo policy denied state)

-- The answer of the first ones of some states.
abbrev pub AreToldOf : Policy → Denied → List StateId → List StateId → Extent → Type 0
AreToldOf policy denied states first = IsAnswered (All (IsNever policy denied) first) (IsOneOf states (WouldBeSo policy denied))

-- No step leads from a state to one of some.
abbrev pub NeverToAny : Policy → List StateId → StateId → Type 0
NeverToAny policy to state = All (λ next. NeverFrom policy state next) to

-- Some facts lead from it to one of them.
abbrev pub MovesToOne : Policy → List StateId → StateId → Type 0
MovesToOne policy to state = IsOneOf to (λ next. Moves policy state next)

-- The answer of moves from the first ones of some states to one of others.
abbrev pub AreToldOfMoves : Policy → List StateId → List StateId → List StateId → Extent → Type 0
AreToldOfMoves policy from first to = IsAnswered (All (NeverToAny policy to) first) (IsOneOf from (MovesToOne policy to))

-- The answer of the first ones of some commands.
abbrev pub AreToldOfRuns : Policy → Guard → List CommandId → List CommandId → Extent → Type 0
AreToldOfRuns policy guard commands first =
    IsAnswered (All (λ command. NeverRuns policy command guard) first) (IsOneOf commands (λ command. WouldRun policy command guard))
