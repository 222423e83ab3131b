-- A policy with the numbers of other tables: each name keeps, and its number becomes the place of the name in those tables.
use Rattle.std.specs.Prelude.{ℕ, ◌≡◌, Bool, true, List, length, map, Option, Some, None, slice_get, position, All, unwrap_or, option_and_then, option_map}
use Rattle.std.specs.List.{list_any}
use Rattle.ifs_base.specs.Facts.{Facts}
use Rattle.ifs_base.specs.Effects.{Effects}
use Rattle.ifs_base.specs.declared.op.LinkState.{LinkState}
use Rattle.ifs_base.specs.declared.op.LinkState.TheVariants.{Unknown}
use Rattle.ifs_base.specs.declared.ids.CommandId.{CommandId}
use Rattle.ifs_base.specs.declared.ids.StateId.{StateId}
use Rattle.ifs_gen.specs.Trees.{Single, LinkIs, TestIs, Condition, Block, Done, RunThen, SetStateThen, IfThen, Part, Policy}
use Rattle.ifs_policy.specs.Fits.{sizes_of, HandlersFit}
use Rattle.ifs_policy.specs.Leaves.{replaced}
use Rattle.ifs_policy.specs.Meaning.{init_yield, body_yield}
use Rattle.ifs_policy.specs.declared.tables.ExternalTest.{ExternalTest}
use Rattle.ifs_policy.specs.declared.tables.Tables.{Tables}
use Rattle.ifs_policy.specs.Tables.{text_eq, test_eq}

-- Each entry of one table is in another.
abbrev pub AreIn : {T : Type 0} → (T → T → Bool) → List T → List T → Type 0
AreIn eq entries table = All (λ entry. list_any (eq entry) table ≡ true) entries

-- Two tables have the same entries.
pub record HaveSameEntries {T : Type 0} (eq : T → T → Bool) (one other : List T) : Type 0 where
  pub there : AreIn eq one other
  pub back : AreIn eq other one

-- Two policies have the same interfaces, tests, commands and states. A test is a command with a period.
pub record HaveSameNames (one other : Tables) : Type 0 where
  pub interfaces : HaveSameEntries text_eq one.interfaces other.interfaces
  pub tests : HaveSameEntries test_eq one.tests other.tests
  pub commands : HaveSameEntries text_eq one.commands other.commands
  pub states : HaveSameEntries text_eq one.states other.states

-- The place of an entry in a table; of a missing one, the number of entries.
abbrev pub place_of : {T : Type 0} → (T → T → Bool) → List T → Option T → ℕ
place_of eq table None = length table
place_of eq table (Some entry) = unwrap_or (position (eq entry) table) (length table)

-- The number of an interface in other tables, by its name.
abbrev pub interface_number : Tables → Tables → ℕ → ℕ
interface_number from to number = place_of text_eq to.interfaces (slice_get from.interfaces number)

-- The number of a test, by its command and its period.
abbrev pub test_number : Tables → Tables → ℕ → ℕ
test_number from to number = place_of test_eq to.tests (slice_get from.tests number)

-- The number of a command, by its text.
abbrev pub command_number : Tables → Tables → CommandId → CommandId
command_number from to command = record { 0 = place_of text_eq to.commands (slice_get from.commands command.0) }

-- The number of a state, by its name.
abbrev pub state_number : Tables → Tables → StateId → StateId
state_number from to state = record { 0 = place_of text_eq to.states (slice_get from.states state.0) }

-- A single test with these numbers.
abbrev pub renumbered_single : Tables → Tables → Single → Single
renumbered_single from to (LinkIs interface state) = LinkIs (record { 0 = interface_number from to interface.0 }) state
renumbered_single from to (TestIs test) = TestIs (record { 0 = test_number from to test.0 })

-- A condition.
abbrev pub renumbered_condition : Tables → Tables → Condition → Condition
renumbered_condition from to = replaced (renumbered_single from to)

-- A block.
abbrev pub renumbered_block : Tables → Tables → Block → Block
renumbered_block from to Done = Done
renumbered_block from to (RunThen command rest) = RunThen (command_number from to command) (renumbered_block from to rest)
renumbered_block from to (SetStateThen state rest) = SetStateThen (state_number from to state) (renumbered_block from to rest)
renumbered_block from to (IfThen condition inner rest) = IfThen (renumbered_condition from to condition) (renumbered_block from to inner) (renumbered_block from to rest)

-- A part.
abbrev pub renumbered_part : Tables → Tables → Part → Part
renumbered_part from to part = record { init = renumbered_block from to part.init; body = renumbered_block from to part.body }

-- A part, if there is one; else a part that does nothing.
abbrev pub renumbered_if_any : Tables → Tables → Option Part → Part
renumbered_if_any from to None = record { init = Done; body = Done }
renumbered_if_any from to (Some part) = renumbered_part from to part

-- The part of the state that has this name in a policy.
abbrev pub part_at_name : Policy → List ℕ → Option Part
part_at_name policy name = option_and_then (λ k. slice_get policy.states k) (position (text_eq name) policy.tables.states)

-- The same with other numbers.
abbrev pub part_named : Policy → Tables → Tables → List ℕ → Part
part_named policy from to name = renumbered_if_any from to (part_at_name policy name)

-- A policy with the numbers of these tables. Its states have the order that they have there.
abbrev pub renumbered : Tables → Policy → Policy
renumbered to policy = record {
  tables = to;
  initial = state_number policy.tables to policy.initial;
  always = renumbered_part policy.tables to policy.always;
  states = map (part_named policy policy.tables to) to.states;
}

-- The state of a link that other facts have under the number of this name.
abbrev pub link_named : Tables → Facts → List ℕ → LinkState
link_named to facts name = unwrap_or (slice_get facts.links (place_of text_eq to.interfaces (Some name))) Unknown

-- The value of this test that they have.
abbrev pub value_named : Tables → Facts → ExternalTest → Option Bool
value_named to facts test = unwrap_or (slice_get facts.tests (place_of test_eq to.tests (Some test))) None

-- The same facts, by the numbers of the first tables.
abbrev pub facts_named : Tables → Tables → Facts → Facts
facts_named from to facts = record { links = map (link_named to facts) from.interfaces; tests = map (value_named to facts) from.tests }

-- The same effects, by the numbers of the second tables.
abbrev pub effects_renumbered : Tables → Tables → Effects → Effects
effects_renumbered from to effects = record { commands = map (command_number from to) effects.commands; wish = option_map (state_number from to) effects.wish }

-- A part with other numbers does what it does with its own: under the same facts by name, its init and its body have the same effects by name.
pub record MeansTheSame (from to : Tables) (part : Part) (facts : Facts) : Type 0 where
  pub init : init_yield facts (renumbered_part from to part).init ≡ effects_renumbered from to (init_yield (facts_named from to facts) part.init)
  pub body : body_yield facts (renumbered_part from to part).body ≡ effects_renumbered from to (body_yield (facts_named from to facts) part.body)

-- It is so if the second tables have all interfaces and tests of the first ones, and the facts are about the second tables.
abbrev pub RenumberedMeansTheSame : Type 0
RenumberedMeansTheSame =
    (from to : Tables) → AreIn text_eq from.interfaces to.interfaces → AreIn test_eq from.tests to.tests → (part : Part) → HandlersFit (sizes_of from) part
    → (facts : Facts) → length facts.links ≡ length to.interfaces → length facts.tests ≡ length to.tests → MeansTheSame from to part facts
