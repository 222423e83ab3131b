-- What stays in a range, and with which levels a policy rests.
use Rattle.std.specs.Prelude.{◌≡◌, Bool, true, false, List, ℤ, All, Any}
use Rattle.ifs_base.specs.Facts.{Facts}
use Rattle.ifs_base.specs.declared.ids.StateId.{StateId}
use Rattle.ifs_core.specs.Gateway.{Known}
use Rattle.ifs_gen.specs.Events.{policy_opened}
use Rattle.ifs_gen.specs.Trees.{Policy}
use Rattle.ifs_solver.specs.Asking.{Guard}
use Rattle.ifs_solver.specs.FactSets.{AreFactsOf, scope_of}
use Rattle.ifs_solver.specs.Situations.{Situation, IsKnownFor}
use Rattle.ifs_claims.specs.Claims.{IsSettled}
use Rattle.ifs_claims.specs.Moves.{commands_of}
use Rattle.ifs_levels.specs.declared.ranges.LevelRange.{LevelRange}
use Rattle.ifs_levels.specs.declared.rows.Row.{Row}
use Rattle.ifs_levels.specs.Levels.{stays_by, RestsWithLevel, StaysWithin}
use Rattle.ifs_levels.specs.Metering.{Meter, meter_of}
use Rattle.ifs_levels.specs.Ranges.{OfEach, is_within}
use Rattle.ifs_levels.specs.Rows.{TableParts}

-- From a level, no opening of a policy leads out of a range on the way.
abbrev pub OpensWithin : Policy → Meter → (ℤ → Bool) → ℤ → Type 0
OpensWithin policy meter range level = (known : Known) → IsKnownFor policy known → stays_by meter range level (policy_opened policy known).queue ≡ true

-- From a state and a level, no evaluation leads out of a range on the way.
abbrev pub LeadsWithin : Policy → Meter → (ℤ → Bool) → StateId → ℤ → Type 0
LeadsWithin policy meter range state level = (facts : Facts) → AreFactsOf (scope_of policy) facts → stays_by meter range level (commands_of policy facts state) ≡ true

-- Neither an opening that keeps the level nor an evaluation leads out of a range from the levels of this row.
pub record IsRowWithin (policy : Policy) (meter : Meter) (keeps : Bool) (range : ℤ → Bool) (row : Row) : Type 0 where
  pub opens : keeps ≡ true → OfEach row.levels (OpensWithin policy meter range)
  pub leads : OfEach row.levels (LeadsWithin policy meter range row.state)

-- If a row is one of rest in a state, a range has its levels.
abbrev pub IsRestWithin : StateId → (ℤ → Bool) → Row → Type 0
IsRestWithin state range row = row.state.0 ≡ state.0 → row.owed ≡ false → OfEach row.levels (λ level. range level ≡ true)

-- A policy rests in a state only with a level in a range, whatever guard is met.
abbrev pub RestsOnlyWithin : Policy → Meter → Bool → ℤ → StateId → (ℤ → Bool) → Type 0
RestsOnlyWithin policy meter keeps first state range = (guard : Guard) → RestsWithLevel policy meter keeps first state guard range

-- After any steps the level by what was run is in a range, from each opening of a table.
abbrev pub TableStaysWithin : TableParts → (ℤ → Bool) → Type 0
TableStaysWithin table range = All (λ first. StaysWithin table.policy (meter_of table.meter) table.keeps first range) table.firsts

-- The policy of a table rests in a state only with a level in a range.
abbrev pub TableRestsWithin : TableParts → StateId → (ℤ → Bool) → Type 0
TableRestsWithin table state range = All (λ first. RestsOnlyWithin table.policy (meter_of table.meter) table.keeps first state range) table.firsts

-- At rest in a state the level is in one of these ranges.
abbrev pub IsAtRestIn : Policy → StateId → List LevelRange → Situation → ℤ → Type 0
IsAtRestIn policy state ranges s level = IsSettled policy s → s.current ≡ state → Any (λ range. is_within range level ≡ true) ranges

-- If a row is one of rest in a state, its levels are among these ranges.
abbrev pub IsRestAmong : StateId → List LevelRange → Row → Type 0
IsRestAmong state ranges row = row.state.0 ≡ state.0 → row.owed ≡ false → Any (λ range. range ≡ row.levels) ranges

-- Later ranges have the levels of this row, if it is one of rest in a state, and of each row whose levels earlier ones have.
pub record AddsRest (state : StateId) (row : Row) (before after : List LevelRange) : Type 0 where
  pub there : IsRestAmong state after row
  pub kept : (other : Row) → IsRestAmong state before other → IsRestAmong state after other
