-- The policy of a tree, in which each name is replaced by its place in a table.
use Rattle.std.specs.Prelude.{ℕ, ◌≡◌, List, [], ◌∷◌, IsTrue}
use Rattle.std.specs.List.{list_any, position_or_len}
use Rattle.ifs_base.specs.declared.ids.CommandId.{CommandId}
use Rattle.ifs_base.specs.declared.ids.StateId.{StateId}
use Rattle.ifs_parse.specs.Trees as tree
use Rattle.ifs_parse.specs.Views.{statement_then}
use Rattle.ifs_parse.specs.declared.tree.Name.{Name}
use Rattle.ifs_parse.specs.declared.tree.Test.{Test}
use Rattle.ifs_parse.specs.declared.tree.Test.TheVariants.{Link, External}
use Rattle.ifs_parse.specs.declared.tree.Wish.{Wish}
use Rattle.ifs_parse.specs.declared.tree.Part.{Part}
use Rattle.ifs_parse.specs.declared.tree.Part.TheVariants.{Init, Do}
use Rattle.ifs_parse.specs.declared.tree.Item.{Item}
use Rattle.ifs_parse.specs.declared.tree.Item.TheVariants.{InitState, State, Always}
use Rattle.ifs_policy.specs.declared.policy.Single.{Single}
use Rattle.ifs_policy.specs.declared.policy.Single.TheVariants.{LinkIs, TestIs}
use Rattle.ifs_policy.specs.declared.policy.Handlers.{Handlers}
use Rattle.ifs_policy.specs.declared.policy.PolicyParts.{PolicyParts}
use Rattle.ifs_policy.specs.declared.tables.Tables.{Tables}
use Rattle.ifs_policy.specs.Leaves.{replaced}
use Rattle.ifs_policy.specs.Mentions.{mentions_of}
use Rattle.ifs_policy.specs.Tables.{text_eq, test_eq, test_of, no_names, tables_of}
use Rattle.ifs_policy.specs.Faults.{is_state, AreSound, AreKnown}

-- The place of a text in a table; of a missing one, the number of entries.
abbrev pub place_in : List (List ℕ) → Name → ℕ
place_in table name = position_or_len (text_eq name.text) table

-- The number of a command.
abbrev pub place_command : Tables → Name → CommandId
place_command tables text = record { 0 = place_in tables.commands text }

-- The number of a state.
abbrev pub place_state : Tables → Name → StateId
place_state tables name = record { 0 = place_in tables.states name }

-- A single test, with the place of its interface or of the test.
abbrev pub place_single : Tables → Test → Single
place_single tables (Link name state) = LinkIs (record { 0 = place_in tables.interfaces name }) state
place_single tables (External command period) = TestIs (record { 0 = position_or_len (test_eq (test_of command period)) tables.tests })

-- A condition with places for names.
abbrev pub place_condition : Tables → tree.Condition Test → tree.Condition Single
place_condition tables = replaced (place_single tables)

-- A block with places for names.
abbrev pub place_block : Tables → tree.Block Test Name Wish → tree.Block Single CommandId StateId
place_block tables tree.Done = tree.Done
place_block tables (tree.RunThen command rest) = tree.RunThen (place_command tables command) (place_block tables rest)
place_block tables (tree.SetStateThen target rest) = tree.SetStateThen (place_state tables target.state) (place_block tables rest)
place_block tables (tree.IfThen condition inner rest) = tree.IfThen (place_condition tables condition) (place_block tables inner) (place_block tables rest)

-- The block of a part's `init`; without one, the empty block.
abbrev pub init_in : List Part → tree.Block Test Name Wish
init_in [] = tree.Done
init_in (Init place block ∷ rest) = block
init_in (Do statement ∷ rest) = init_in rest

-- The statements of a part, in text order.
abbrev pub body_in : List Part → tree.Block Test Name Wish
body_in [] = tree.Done
body_in (Init place block ∷ rest) = body_in rest
body_in (Do statement ∷ rest) = statement_then statement (body_in rest)

-- The two blocks of a part, with places for names.
abbrev pub place_part : Tables → List Part → Handlers
place_part tables parts = record { init = place_block tables (init_in parts); body = place_block tables (body_in parts) }

-- The parts outside any state.
abbrev pub always_of : List Item → List Part
always_of [] = []
always_of (Always part ∷ rest) = part ∷ always_of rest
always_of (State name parts ∷ rest) = always_of rest
always_of (InitState place name ∷ rest) = always_of rest

-- The blocks of the states, in the order of their definitions.
abbrev pub place_states : Tables → List Item → List Handlers
place_states tables [] = []
place_states tables (State name parts ∷ rest) = place_part tables parts ∷ place_states tables rest
place_states tables (Always part ∷ rest) = place_states tables rest
place_states tables (InitState place name ∷ rest) = place_states tables rest

-- The state that `init-state` names; without one, the first.
abbrev pub initial_of : Tables → List Item → StateId
initial_of tables [] = record { 0 = 0 }
initial_of tables (InitState place name ∷ rest) = place_state tables name
initial_of tables (State name parts ∷ rest) = initial_of tables rest
initial_of tables (Always part ∷ rest) = initial_of tables rest

-- The policy of a text's items, with these tables.
abbrev pub place_items : Tables → List Item → PolicyParts
place_items tables items = record {
  tables = tables;
  initial = initial_of tables items;
  always = place_part tables (always_of items);
  states = place_states tables items;
}

-- A policy is that of a text's items, which break no rule.
pub record Resolves (items : List Item) (policy : PolicyParts) : Type 0 where
  pub has_state : IsTrue (list_any is_state items)
  pub sound : AreSound no_names (mentions_of items)
  pub known : AreKnown (tables_of (mentions_of items)).states (mentions_of items)
  pub placed : policy ≡ place_items (tables_of (mentions_of items)) items
