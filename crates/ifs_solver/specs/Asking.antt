-- What is asked of the facts of an evaluation, and what a search answers.
use Rattle.std.specs.Prelude.{◌≡◌, Bool, true, false, not, ◌==◌, ◌&&◌, List, Option, Some, None, is_some}
use Rattle.std.specs.List.{list_all, list_any}
use Rattle.ifs_base.specs.Facts.{Facts}
use Rattle.ifs_base.specs.declared.ids.StateId.{StateId}
use Rattle.ifs_parse.specs.Views.{block_of}
use Rattle.ifs_policy.specs.Meaning.{Condition, truth, is_open, is_held, mentioned_in, reached, body_yield}
use Rattle.ifs_solver.specs.declared.constraints.Aim.{Aim}
use Rattle.ifs_solver.specs.declared.constraints.Aim.TheVariants.{Any, To, Off}
use Rattle.ifs_solver.specs.declared.constraints.Constraint.{Constraint}
use Rattle.ifs_solver.specs.declared.constraints.Constraint.TheVariants.{Truth, Met, Free, NoWish, Silent, Aims}
use Rattle.ifs_solver.specs.declared.constraints.Guard.{Guard as GuardOfCode}
use Rattle.ifs_solver.specs.declared.constraints.Guard.TheVariants as code
use Rattle.ifs_solver.specs.declared.fact_sets.Scope.{Scope}
use Rattle.ifs_solver.specs.declared.searching.Extent.{Extent}
use Rattle.ifs_solver.specs.declared.searching.Extent.TheVariants.{Somewhere, Nowhere, Undecided}
use Rattle.ifs_solver.specs.FactSets.{AreFactsOf, FactSet, Within, HasFacts}

-- A value, or its opposite.
abbrev pub is_signed : Bool → Bool → Bool
is_signed true value = value
is_signed false value = not value

-- A state is one of those aimed at.
abbrev pub is_aimed_at : Aim → StateId → Bool
is_aimed_at Any state = true
is_aimed_at (To other) state = state.0 == other.0
is_aimed_at (Off other) state = not (state.0 == other.0)

-- There is a wish, for a state that is aimed at.
abbrev pub hits : Aim → Option StateId → Bool
hits aim None = false
hits aim (Some state) = is_aimed_at aim state

-- There is a wish, for another state.
abbrev pub misses : Aim → Option StateId → Bool
misses aim None = false
misses aim (Some state) = not (is_aimed_at aim state)

-- What facts meet: a condition is true; or it is, and each test in it has a value; or a test in it has none.
pub data Guard : Type 0 where
  WhileTrue : Condition → Guard
  WhileKnown : Condition → Guard
  WhileUnknown : Condition → Guard

-- The guard of a value of the code.
abbrev pub guard_of : GuardOfCode → Guard
guard_of (code.True condition) = WhileTrue condition.now
guard_of (code.Known condition) = WhileKnown condition.now
guard_of (code.Unknown condition) = WhileUnknown condition.now

-- The condition of a guard.
abbrev pub condition_of : Guard → Condition
condition_of (WhileTrue condition) = condition
condition_of (WhileKnown condition) = condition
condition_of (WhileUnknown condition) = condition

-- The same guard of another condition.
abbrev pub guard_with : Condition → Guard → Guard
guard_with condition (WhileTrue other) = WhileTrue condition
guard_with condition (WhileKnown other) = WhileKnown condition
guard_with condition (WhileUnknown other) = WhileUnknown condition

-- A test in a condition has no value.
abbrev pub lacks_value : Facts → Condition → Bool
lacks_value facts condition = list_any (is_open facts) (mentioned_in condition)

-- Facts meet a guard.
abbrev pub is_met : Facts → Guard → Bool
is_met facts (WhileTrue condition) = truth facts condition
is_met facts (WhileKnown condition) = truth facts condition && not (lacks_value facts condition)
is_met facts (WhileUnknown condition) = lacks_value facts condition

-- Facts meet a constraint.
abbrev pub meets : Facts → Constraint → Bool
meets facts (Truth condition sign) = is_signed sign (truth facts condition.now)
meets facts (Met guard) = is_met facts (guard_of guard)
meets facts (Free body) = not (is_held facts body.now)
meets facts (NoWish statements) = not (is_some (reached facts (block_of statements.now)).wish)
meets facts (Silent body) = not (is_some (body_yield facts body.now).wish)
meets facts (Aims body aim) = hits aim (reached facts body.now).wish

-- Facts meet all of some constraints.
abbrev pub meets_all : List Constraint → Facts → Bool
meets_all constraints facts = list_all (meets facts) constraints

-- Some facts of so many links and tests pass.
abbrev pub IsSomewhere : Scope → (Facts → Bool) → Type 0
IsSomewhere scope test = (facts : Facts) × AreFactsOf scope facts × (test facts ≡ true)

-- None of them pass.
abbrev pub IsNowhere : Scope → (Facts → Bool) → Type 0
IsNowhere scope test = (facts : Facts) → AreFactsOf scope facts → test facts ≡ false

-- The answer to whether some facts pass.
abbrev pub IsExtentOf : Scope → (Facts → Bool) → Extent → Type 0
IsExtentOf scope test Somewhere = IsSomewhere scope test
IsExtentOf scope test Nowhere = IsNowhere scope test
IsExtentOf scope test Undecided = Unit {0}

-- The answer to whether some facts of one kind pass.
abbrev pub IsExtentAmong : (Facts → Type 0) → (Facts → Bool) → Extent → Type 0
IsExtentAmong P test Somewhere = (facts : Facts) × P facts × (test facts ≡ true)
IsExtentAmong P test Nowhere = (facts : Facts) → P facts → test facts ≡ false
IsExtentAmong P test Undecided = Unit {0}

-- Some facts pass.
abbrev pub is_somewhere : Extent → Bool
is_somewhere Somewhere = true
is_somewhere Nowhere = false
is_somewhere Undecided = false

-- Of two answers: some facts pass one test or the other.
abbrev pub either : Extent → Extent → Extent
either Somewhere more = Somewhere
either Nowhere more = more
either Undecided Somewhere = Somewhere
either Undecided Nowhere = Undecided
either Undecided Undecided = Undecided

-- The answer to whether something breaks what would hold.
abbrev pub IsAnswered : Type 0 → Type 0 → Extent → Type 0
IsAnswered holds breaks Somewhere = breaks
IsAnswered holds breaks Nowhere = holds
IsAnswered holds breaks Undecided = Unit {0}

-- All facts within a set have this answer.
abbrev pub IsThroughout : FactSet → (Facts → Bool) → Bool → Type 0
IsThroughout set test value = (facts : Facts) → Within set facts → test facts ≡ value

-- All facts within a set are within another one.
abbrev pub IsPart : FactSet → FactSet → Type 0
IsPart part set = (facts : Facts) → Within part facts → Within set facts

-- A search in a set finds a part of it that has facts, and all of these pass; or none in the set pass. In that case, and if it is undecided, the set stays.
abbrev pub IsSearched : (Facts → Bool) → FactSet → FactSet → Extent → Type 0
IsSearched test before after Somewhere = IsPart after before × HasFacts after × IsThroughout after test true
IsSearched test before after Nowhere = (after ≡ before) × IsThroughout before test false
IsSearched test before after Undecided = after ≡ before
