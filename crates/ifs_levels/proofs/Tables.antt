-- A table that nothing leads out of has all that steps lead to.
use Rattle.std.proofs.Common.{◌≡◌, ℕ, Bool, true, false, arith, refl, zero, suc, ◌+◌, List, [], ◌∷◌, ◌++◌, length, Option, Some, None, map, sym, ap, ◌∙◌, subst}
use Rattle.std.specs.Prelude.{slice_get, All, Any, ℤ}
use Rattle.std.proofs.lemmas.Grind.{common_steps}
use Rattle.std.proofs.lemmas.List.Quantifiers.{Any-push}
use Rattle.std.proofs.lemmas.List.{length-map}
use Rattle.std.proofs.lemmas.List.Elements.{All-contains, All-weaker}
use Rattle.std.proofs.lemmas.Option.{none-some, same_Some}
use Rattle.ifs_base.specs.Facts.{Facts}
use Rattle.ifs_base.specs.declared.ids.StateId.{StateId}
use Rattle.ifs_core.specs.Gateway.{Known}
use Rattle.ifs_gen.specs.Trees.{Policy}
use Rattle.ifs_gen.specs.Events.{policy_opened}
use Rattle.ifs_solver.specs.FactSets.{AreFactsOf, scope_of}
use Rattle.ifs_solver.specs.Situations.{IsKnownFor, leads_to, entered_by}
use Rattle.ifs_claims.specs.Moves.{StepsEvaluateOnce, commands_of}
use Rattle.ifs_levels.specs.declared.moments.Moment.{Moment}
use Rattle.ifs_levels.specs.declared.moments.Moment.TheVariants.{Opening, In}
use Rattle.ifs_levels.specs.declared.moments.Outcome.{Outcome}
use Rattle.ifs_levels.specs.declared.policy_outcomes.StateOutcomes.{StateOutcomes}
use Rattle.ifs_levels.specs.declared.metering.Change.{Change}
use Rattle.ifs_levels.specs.declared.rows.Row.{Row}
use Rattle.ifs_levels.specs.Metering.{Meter, level_by, meter_of}
use Rattle.ifs_levels.specs.Levels.{HoldsFromOpenings, StaysWithin, level_after, stays_by}
use Rattle.ifs_levels.specs.declared.ranges.LevelRange.{LevelRange}
use Rattle.ifs_levels.specs.Outcomes.{next_at, commands_at, AreOutcomesOf}
use Rattle.ifs_levels.specs.Rows.{IsInTable, HasNext, LeadsToRow, Opens, LeadsOn, IsRowClosed, IsClosedTable, TableParts, HoldsInTable, HasAll}
use Rattle.ifs_levels.specs.inner.Tables.{AreAllFrom}
use Rattle.ifs_levels.specs.Ranges.{OfEach, is_within}
use Rattle.ifs_levels.specs.Within.{OpensWithin, LeadsWithin, IsRowWithin, IsRestWithin, RestsOnlyWithin, TableStaysWithin, TableRestsWithin, IsAtRestIn, IsRestAmong, AddsRest}
use Rattle.ifs_levels.specs.inner.Ranges.{IsStaying}
use Rattle.ifs_levels.proofs.Levels.{from_openings, run_within}
use Rattle.ifs_levels.proofs.Shifts.{each_stays}

-- The facts at an opening.
facts_of_opening : (policy : Policy) (known : Known) → IsKnownFor policy known → AreFactsOf (scope_of policy) (policy_opened policy known).position.facts
facts_of_opening policy known fits = record { links = fits; tests = length-map (map (λ test. test.period) policy.tables.tests) _ ∙ length-map policy.tables.tests _ }

-- Each of the outcomes of a moment leads to a row.
module _ (policy : Policy) (meter : Meter) (rows : List Row) (state : StateId) (level : ℤ) where
  all_land : (moment : Moment) (outcomes : List Outcome) → AreOutcomesOf policy moment outcomes → All (LeadsToRow rows meter state level) outcomes → (facts : Facts) → AreFactsOf (scope_of policy) facts
      → HasNext rows state (next_at policy moment facts) (level_by meter level (commands_at policy moment facts))
  all_land moment outcomes are all facts fits =
      let found = are.all facts fits in
      let outcome = found.1 in
      let lead = All-contains (LeadsToRow rows meter state level) outcomes outcome all (found.0, found.2, found.3) in
      subst (λ o. HasNext rows state o (level_by meter level (commands_at policy moment facts))) (sym found.4.next)
      (subst (λ xs. HasNext rows state outcome.next (level_by meter level xs)) (sym found.4.commands) lead)

-- The same of each level of a range.
module _ (policy : Policy) (meter : Meter) (rows : List Row) (state : StateId) (levels : LevelRange) (outcomes : List Outcome)
    (all : All (λ outcome. OfEach levels (λ level. LeadsToRow rows meter state level outcome)) outcomes) where
  at_level : (level : ℤ) → is_within levels level ≡ true → All (LeadsToRow rows meter state level) outcomes
  at_level level is = All-weaker (λ outcome. OfEach levels (λ level. LeadsToRow rows meter state level outcome)) (LeadsToRow rows meter state level) (λ outcome h. h level is) outcomes all

  pub opens : AreOutcomesOf policy Opening outcomes → OfEach levels (Opens policy meter rows)
  opens are level is known fits =
      all_land policy meter rows state level Opening outcomes are (at_level level is) (policy_opened policy known).position.facts (facts_of_opening policy known fits)

  pub leads_on : AreOutcomesOf policy (In state) outcomes → OfEach levels (LeadsOn policy meter rows state)
  leads_on are level is facts fits = all_land policy meter rows state level (In state) outcomes are (at_level level is) facts fits

-- A closed table.
abbrev pub state_at : ℕ → StateId
state_at n = record { 0 = n }

where_it_leads : (policy : Policy) (rows : List Row) (facts : Facts) (state : StateId) (level : ℤ) (o : Option StateId) → HasNext rows state o level → IsInTable rows (entered_by policy facts state o) level
where_it_leads policy rows facts state level None h = h
where_it_leads policy rows facts state level (Some next) h = h

pub closed_table : (once : StepsEvaluateOnce) (policy : Policy) (meter : Meter) (keeps : Bool) (rows : List Row) → All (IsRowClosed policy meter keeps rows) rows → IsClosedTable policy meter keeps rows
closed_table once policy meter keeps rows all first opening =
    from_openings once policy meter (IsInTable rows)
    (λ s level h facts are.
    let row = h.1 in
    let closed = All-contains (IsRowClosed policy meter keeps rows) rows row all (h.0, h.2, h.3) in
    let same_state : row.state ≡ s.current = ap state_at h.4.same_state in
    where_it_leads policy rows facts s.current (level_by meter level (commands_of policy facts s.current)) (leads_to policy facts s.current)
    (subst (λ state. HasNext rows state (leads_to policy facts state) (level_by meter level (commands_of policy facts state))) same_state (closed.leads level h.4.has_level facts are)))
    keeps first opening
    (λ keeps_is s level h known fits. (All-contains (IsRowClosed policy meter keeps rows) rows h.1 all (h.0, h.2, h.3)).opens keeps_is level h.4.has_level known fits)

-- From each of the outcomes of a moment, each level of a range stays in another one on the way.
module _ (policy : Policy) (meter : Meter) (range levels : LevelRange) (outcomes : List Outcome) (all : All (IsStaying meter range levels) outcomes) where
  all_within : (moment : Moment) → AreOutcomesOf policy moment outcomes → (level : ℤ) → is_within levels level ≡ true → (facts : Facts) → AreFactsOf (scope_of policy) facts
      → stays_by meter (is_within range) level (commands_at policy moment facts) ≡ true
  all_within moment are level is facts fits =
      let found = are.all facts fits in
      subst (λ xs. stays_by meter (is_within range) level xs ≡ true) (sym found.4.commands)
      (each_stays meter range levels found.1.commands.items (All-contains (IsStaying meter range levels) outcomes found.1 all (found.0, found.2, found.3)) level is)

  pub opens_within : AreOutcomesOf policy Opening outcomes → OfEach levels (OpensWithin policy meter (is_within range))
  opens_within are level is known fits = all_within Opening are level is (policy_opened policy known).position.facts (facts_of_opening policy known fits)

  pub leads_within : (state : StateId) → AreOutcomesOf policy (In state) outcomes → OfEach levels (LeadsWithin policy meter (is_within range) state)
  leads_within state are level is facts fits = all_within (In state) are level is facts fits

-- A table from which nothing leads out of a range.
pub table_within : (once : StepsEvaluateOnce) (policy : Policy) (meter : Meter) (keeps : Bool) (first : ℤ) (rows : List Row) (range : ℤ → Bool)
    → OpensWithin policy meter range first → All (IsRowWithin policy meter keeps range) rows → HoldsFromOpenings policy meter keeps first (IsInTable rows) → StaysWithin policy meter keeps first range
table_within once policy meter keeps first rows range opening all holds =
    run_within once policy meter keeps first range (IsInTable rows) holds opening
    (λ keeps_is s level h known fits. (All-contains (IsRowWithin policy meter keeps range) rows h.1 all (h.0, h.2, h.3)).opens keeps_is level h.4.has_level known fits)
    (λ s level h facts are.
    let row = h.1 in
    let within = All-contains (IsRowWithin policy meter keeps range) rows row all (h.0, h.2, h.3) in
    let same_state : row.state ≡ s.current = ap state_at h.4.same_state in
    subst (λ state. stays_by meter range level (commands_of policy facts state) ≡ true) same_state (within.leads level h.4.has_level facts are))

-- A table in which the levels of each row of rest in a state are in a range.
pub table_rests : (policy : Policy) (meter : Meter) (keeps : Bool) (first : ℤ) (rows : List Row) (state : StateId) (range : ℤ → Bool) → HoldsFromOpenings policy meter keeps first (IsInTable rows)
    → All (IsRestWithin state range) rows → RestsOnlyWithin policy meter keeps first state range
table_rests policy meter keeps first rows state range holds all guard begun may known fits steps settled same_state met =
    let h = holds begun may known fits steps in
    let rest = All-contains (IsRestWithin state range) rows h.1 all (h.0, h.2, h.3) in
    rest (h.4.same_state ∙ ap (λ s. s.0) same_state) (h.4.same_owed ∙ settled.owed) (level_after policy meter begun known steps) h.4.has_level

-- The same of a table with its parts.
pub table_rests_all : (table : TableParts) (state : StateId) (range : ℤ → Bool) → HasAll table → All (IsRestWithin state range) table.rows → TableRestsWithin table state range
table_rests_all table state range has all =
    All-weaker (λ first. HoldsFromOpenings table.policy (meter_of table.meter) table.keeps first (IsInTable table.rows)) (λ first. RestsOnlyWithin table.policy (meter_of table.meter) table.keeps first state range)
    (λ first holds. table_rests table.policy (meter_of table.meter) table.keeps first table.rows state range holds all) table.firsts has

pub table_stays_all : (table : TableParts) (range : ℤ → Bool) → HasAll table
    → All (λ first. HoldsFromOpenings table.policy (meter_of table.meter) table.keeps first (IsInTable table.rows) → StaysWithin table.policy (meter_of table.meter) table.keeps first range) table.firsts
    → TableStaysWithin table range
table_stays_all table range has all = λ k d lt. all k d lt (has k d lt)

-- The levels of the rows of rest in a state are all with which the policy rests there.
pub rests_among : (table : TableParts) (state : StateId) (ranges : List LevelRange) → HasAll table → All (IsRestAmong state ranges) table.rows → HoldsInTable table (IsAtRestIn table.policy state ranges)
rests_among table state ranges has all =
    All-weaker (λ first. HoldsFromOpenings table.policy (meter_of table.meter) table.keeps first (IsInTable table.rows))
    (λ first. HoldsFromOpenings table.policy (meter_of table.meter) table.keeps first (IsAtRestIn table.policy state ranges))
    (λ first holds begun may known fits steps settled same_state.
    let h = holds begun may known fits steps in
    let found = All-contains (IsRestAmong state ranges) table.rows h.1 all (h.0, h.2, h.3) (h.4.same_state ∙ ap (λ s. s.0) same_state) (h.4.same_owed ∙ settled.owed) in
    (found.0, found.1, found.2, found.3, subst (λ r. is_within r (level_after table.policy (meter_of table.meter) begun known steps) ≡ true) (sym found.4) h.4.has_level))
    table.firsts has

-- One more row, whose levels are added or are not those of a rest.
any_more : (P : LevelRange → Type 0) (xs : List LevelRange) (y : LevelRange) → Any P xs → Any P (xs ++ y ∷ [])
any_more P xs y h = let lt = h.2 in let at = h.3 in (h.0, h.1, grind (arith, common_steps, lt), grind (arith, common_steps, lt, at), h.4)

pub among_more : (state : StateId) (ranges : List LevelRange) (range : LevelRange) (row : Row) → IsRestAmong state ranges row → IsRestAmong state (ranges ++ range ∷ []) row
among_more state ranges range row h same_state same_owed = any_more (λ r. r ≡ row.levels) ranges range (h same_state same_owed)

pub among_new : (state : StateId) (ranges : List LevelRange) (row : Row) → IsRestAmong state (ranges ++ row.levels ∷ []) row
among_new state ranges row same_state same_owed = Any-push (λ r. r ≡ row.levels) ranges row.levels refl

pub adds_rest : (state : StateId) (ranges after : List LevelRange) (row : Row) → after ≡ ranges ++ row.levels ∷ [] → AddsRest state row ranges after
adds_rest state ranges after row is = subst (AddsRest state row ranges) (sym is) (record { there = among_new state ranges row; kept = λ other h. among_more state ranges row.levels other h })

pub adds_none : (state : StateId) (ranges : List LevelRange) (row : Row) → (row.state.0 ≡ state.0 → row.owed ≡ false → ⊥) → AddsRest state row ranges ranges
adds_none state ranges row isnt = record { there = λ same owed. absurd (isnt same owed); kept = λ other h. h }

-- A table by its parts, and the facts that callers have of them.
abbrev pub parts : Policy → List Change → Bool → List ℤ → List Row → TableParts
parts policy meter keeps firsts rows = record { policy = policy; meter = meter; keeps = keeps; firsts = firsts; rows = rows }

pub same_parts : (policy : Policy) (keeps : Bool) (meter other_meter : List Change) (firsts other_firsts : List ℤ) (rows other_rows : List Row) → meter ≡ other_meter → firsts ≡ other_firsts → rows ≡ other_rows
    → parts policy meter keeps firsts rows ≡ parts policy other_meter keeps other_firsts other_rows
same_parts policy keeps meter other_meter firsts other_firsts rows other_rows m f r =
    ap (λ x. parts policy x keeps firsts rows) m ∙ ap (λ x. parts policy other_meter keeps x rows) f ∙ ap (λ x. parts policy other_meter keeps other_firsts x) r

abbrev pub StaysIfHeld : (ℤ → Bool) → TableParts → Type 0
StaysIfHeld range table =
    All (λ first. HoldsFromOpenings table.policy (meter_of table.meter) table.keeps first (IsInTable table.rows) → StaysWithin table.policy (meter_of table.meter) table.keeps first range) table.firsts

-- Outcomes of states, in order.
plus_more : (n k : ℕ) → suc n + k ≡ n + suc k
plus_more n k = omega (arith)

pub one_more_state : (policy : Policy) (n m : ℕ) (states : List StateOutcomes) (next : StateOutcomes) → n + length states ≡ m → AreAllFrom policy n states → AreOutcomesOf policy (In (state_at m)) next.outcomes.items
    → AreAllFrom policy n (states ++ next ∷ [])
one_more_state policy n m [] next is h one = (subst (λ k. AreOutcomesOf policy (In (state_at k)) next.outcomes.items) (omega (arith, is)) one, tt)
one_more_state policy n m (first ∷ rest) next is h one = (h.0, one_more_state policy (suc n) m rest next (omega (arith, is)) h.1 one)

from_number : (policy : Policy) (n k : ℕ) (states : List StateOutcomes) (found : StateOutcomes) → AreAllFrom policy n states → slice_get states k ≡ Some found → AreOutcomesOf policy (In (state_at (n + k))) found.outcomes.items
from_number policy n k [] found h at = absurd (none-some found at)
from_number policy n zero (first ∷ rest) found h at =
    subst (λ m. AreOutcomesOf policy (In (state_at m)) found.outcomes.items) (omega (arith)) (subst (λ (x : StateOutcomes). AreOutcomesOf policy (In (state_at n)) x.outcomes.items) (same_Some first found at) h.0)
from_number policy n (suc k) (first ∷ rest) found h at =
    subst (λ m. AreOutcomesOf policy (In (state_at m)) found.outcomes.items) (plus_more n k) (from_number policy (suc n) k rest found h.1 at)

pub at_state : (policy : Policy) (state : StateId) (states : List StateOutcomes) (found : StateOutcomes) → AreAllFrom policy 0 states → slice_get states state.0 ≡ Some found → AreOutcomesOf policy (In state) found.outcomes.items
at_state policy state states found h at =
    subst (λ n. AreOutcomesOf policy (In (state_at n)) found.outcomes.items) (omega (arith)) (from_number policy 0 state.0 states found h at)
