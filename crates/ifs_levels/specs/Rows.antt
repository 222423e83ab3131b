-- A table of states with levels, and where outcomes lead from its rows.
use Rattle.std.specs.Prelude.{◌≡◌, Bool, false, true, List, Option, Some, None, ℤ, All, Any}
use Rattle.ifs_base.specs.Facts.{Facts}
use Rattle.ifs_base.specs.declared.ids.StateId.{StateId}
use Rattle.ifs_core.specs.Gateway.{Known}
use Rattle.ifs_gen.specs.Events.{policy_opened}
use Rattle.ifs_gen.specs.Trees.{Policy}
use Rattle.ifs_solver.specs.FactSets.{AreFactsOf, scope_of}
use Rattle.ifs_solver.specs.Situations.{Situation, IsKnownFor, leads_to}
use Rattle.ifs_claims.specs.Moves.{commands_of}
use Rattle.ifs_levels.specs.declared.rows.Row.{Row}
use Rattle.ifs_levels.specs.declared.moments.Outcome.{Outcome}
use Rattle.ifs_levels.specs.declared.metering.Change.{Change}
use Rattle.ifs_levels.specs.Metering.{Meter, level_by, meter_of}
use Rattle.ifs_levels.specs.Levels.{HoldsFromOpenings}
use Rattle.ifs_levels.specs.Ranges.{is_within, OfEach}

-- A row has this state, and this level among its levels.
pub record IsRowOf (state : StateId) (owed : Bool) (level : ℤ) (row : Row) : Type 0 where
  pub same_state : row.state.0 ≡ state.0
  pub same_owed : row.owed ≡ owed
  pub has_level : is_within row.levels level ≡ true

-- A table has a row of this state and level.
abbrev pub HasRow : List Row → StateId → Bool → ℤ → Type 0
HasRow rows state owed level = Any (IsRowOf state owed level) rows

-- A table has a row of this situation and level.
abbrev pub IsInTable : List Row → Situation → ℤ → Type 0
IsInTable rows s level = HasRow rows s.current s.owed level

-- A table has a row where the state stays, or where the next one is entered.
abbrev pub HasNext : List Row → StateId → Option StateId → ℤ → Type 0
HasNext rows state None level = HasRow rows state false level
HasNext rows state (Some next) level = HasRow rows next true level

-- A table has a row where an outcome leads from a state and a level.
abbrev pub LeadsToRow : List Row → Meter → StateId → ℤ → Outcome → Type 0
LeadsToRow rows meter state level outcome = HasNext rows state outcome.next (level_by meter level outcome.commands.items)

-- From a level, a table has each opening of a policy.
abbrev pub Opens : Policy → Meter → List Row → ℤ → Type 0
Opens policy meter rows level = (known : Known) → IsKnownFor policy known → HasRow rows policy.initial true (level_by meter level (policy_opened policy known).queue)

-- From a state and a level, a table has all that an evaluation comes to.
abbrev pub LeadsOn : Policy → Meter → List Row → StateId → ℤ → Type 0
LeadsOn policy meter rows state level =
    (facts : Facts) → AreFactsOf (scope_of policy) facts → HasNext rows state (leads_to policy facts state) (level_by meter level (commands_of policy facts state))

-- Neither an opening that keeps the level nor an evaluation leads out of the table from the levels of this row.
pub record IsRowClosed (policy : Policy) (meter : Meter) (keeps : Bool) (rows : List Row) (row : Row) : Type 0 where
  pub opens : keeps ≡ true → OfEach row.levels (Opens policy meter rows)
  pub leads : OfEach row.levels (LeadsOn policy meter rows row.state)

-- A table has all that steps lead to, from each level at which it has the opening.
abbrev pub IsClosedTable : Policy → Meter → Bool → List Row → Type 0
IsClosedTable policy meter keeps rows = (first : ℤ) → Opens policy meter rows first → HoldsFromOpenings policy meter keeps first (IsInTable rows)

-- A table of a level: the policy, what each command does by its number, whether a reload keeps the level, the first levels, and the rows.
pub record TableParts : Type 0 where
  pub policy : Policy
  pub meter : List Change
  pub keeps : Bool
  pub firsts : List ℤ
  pub rows : List Row

-- It holds of the situation and the level after any steps, from each opening, whichever of the first levels it begins with.
abbrev pub HoldsInTable : TableParts → (Situation → ℤ → Type 0) → Type 0
HoldsInTable table P = All (λ first. HoldsFromOpenings table.policy (meter_of table.meter) table.keeps first P) table.firsts

-- A table has all that steps lead to.
abbrev pub HasAll : TableParts → Type 0
HasAll table = HoldsInTable table (IsInTable table.rows)
