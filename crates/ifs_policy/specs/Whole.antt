-- Rules over a whole tree: the lists of its names, each in text order, and what they satisfy if the tree has a policy.
use Rattle.std.specs.Prelude.{ℕ, ◌≡◌, ◌≢◌, ◌≤◌, Bool, not, List, [], ◌∷◌, ◌++◌, length, filter, All, AllPairs, Contains}
use Rattle.std.specs.List.{flat_map}
use Rattle.ifs_base.specs.Sizes.{TextFits}
use Rattle.ifs_parse.specs.Trees as tree
use Rattle.ifs_parse.specs.Views.{statement_then}
use Rattle.ifs_parse.specs.declared.tree.Name.{Name}
use Rattle.ifs_parse.specs.declared.tree.Test.{Test}
use Rattle.ifs_parse.specs.declared.tree.Test.TheVariants.{Link, External}
use Rattle.ifs_parse.specs.declared.tree.Wish.{Wish}
use Rattle.ifs_parse.specs.declared.tree.Part.{Part}
use Rattle.ifs_parse.specs.declared.tree.Part.TheVariants.{Init, Do}
use Rattle.ifs_parse.specs.declared.tree.Item.{Item}
use Rattle.ifs_parse.specs.declared.tree.Item.TheVariants.{InitState, State, Always}
use Rattle.ifs_policy.specs.declared.tables.ExternalTest.{ExternalTest}
use Rattle.ifs_policy.specs.Tables.{text_eq, test_eq, test_of}

-- A block of a text.
abbrev pub TextBlock : Type 0
TextBlock = tree.Block Test Name Wish

-- The single tests in a condition.
abbrev pub singles : tree.Condition Test → List Test
singles (tree.Leaf test) = test ∷ []
singles (tree.NotSo operand) = singles operand
singles (tree.And left right) = singles left ++ singles right
singles (tree.Or left right) = singles left ++ singles right

-- The single tests in a block, at any depth.
abbrev pub block_singles : TextBlock → List Test
block_singles tree.Done = []
block_singles (tree.RunThen command rest) = block_singles rest
block_singles (tree.SetStateThen target rest) = block_singles rest
block_singles (tree.IfThen condition inner rest) = singles condition ++ (block_singles inner ++ block_singles rest)

-- The commands in a block, at any depth.
abbrev pub block_commands : TextBlock → List (List ℕ)
block_commands tree.Done = []
block_commands (tree.RunThen command rest) = command.text ∷ block_commands rest
block_commands (tree.SetStateThen target rest) = block_commands rest
block_commands (tree.IfThen condition inner rest) = block_commands inner ++ block_commands rest

-- The targets of `set-state` in a block, at any depth.
abbrev pub block_targets : TextBlock → List (List ℕ)
block_targets tree.Done = []
block_targets (tree.RunThen command rest) = block_targets rest
block_targets (tree.SetStateThen target rest) = target.state.text ∷ block_targets rest
block_targets (tree.IfThen condition inner rest) = block_targets inner ++ block_targets rest

-- The interface of a link test.
abbrev pub link_of : Test → List (List ℕ)
link_of (Link name state) = name.text ∷ []
link_of (External command period) = []

-- The command and the period of an external test.
abbrev pub external_of : Test → List ExternalTest
external_of (Link name state) = []
external_of (External command period) = test_of command period ∷ []

-- The block of a part: that of its `init`, or its one statement.
abbrev pub block_in : Part → TextBlock
block_in (Init place block) = block
block_in (Do statement) = statement_then statement tree.Done

-- The blocks of the `init`s in a list of parts.
abbrev pub inits_of : List Part → List TextBlock
inits_of [] = []
inits_of (Init place block ∷ rest) = block ∷ inits_of rest
inits_of (Do statement ∷ rest) = inits_of rest

-- The parts of an item: those between the braces of a state, or one outside any state.
abbrev pub parts_in : Item → List Part
parts_in (InitState place name) = []
parts_in (State name parts) = parts
parts_in (Always part) = part ∷ []

-- All parts.
abbrev pub parts : List Item → List Part
parts items = flat_map parts_in items

-- The parts outside any state.
abbrev pub outside : List Item → List Part
outside [] = []
outside (Always part ∷ rest) = part ∷ outside rest
outside (item ∷ rest) = outside rest

-- The parts of each state.
abbrev pub of_states : List Item → List (List Part)
of_states [] = []
of_states (State name parts ∷ rest) = parts ∷ of_states rest
of_states (item ∷ rest) = of_states rest

-- The names in the definitions of states.
abbrev pub states : List Item → List (List ℕ)
states [] = []
states (State name parts ∷ rest) = name.text ∷ states rest
states (item ∷ rest) = states rest

-- The targets of `init-state`.
abbrev pub init_states : List Item → List (List ℕ)
init_states [] = []
init_states (InitState place name ∷ rest) = name.text ∷ init_states rest
init_states (item ∷ rest) = init_states rest

-- The interfaces in a tree, as often as they occur.
abbrev pub interfaces : List Item → List (List ℕ)
interfaces items = flat_map (λ part. flat_map link_of (block_singles (block_in part))) (parts items)

-- The external tests in a tree, as often as they occur.
abbrev pub tests : List Item → List ExternalTest
tests items = flat_map (λ part. flat_map external_of (block_singles (block_in part))) (parts items)

-- The commands in a tree, as often as they occur.
abbrev pub commands : List Item → List (List ℕ)
commands items = flat_map (λ part. block_commands (block_in part)) (parts items)

-- The targets of `set-state` in a tree, as often as they occur.
abbrev pub targets : List Item → List (List ℕ)
targets items = flat_map (λ part. block_targets (block_in part)) (parts items)

-- The external tests in `init`s.
abbrev pub tests_in_inits : List Item → List ExternalTest
tests_in_inits items = flat_map (λ block. flat_map external_of (block_singles block)) (inits_of (parts items))

-- The targets of `set-state` in `init`s.
abbrev pub targets_in_inits : List Item → List (List ℕ)
targets_in_inits items = flat_map block_targets (inits_of (parts items))

-- The distinct members of a list, in the order of their first occurrence.
abbrev pub first_uses : {T : Type 0} → (T → T → Bool) → List T → List T
first_uses eq [] = []
first_uses eq (x ∷ xs) = x ∷ filter (λ y. not (eq x y)) (first_uses eq xs)

-- The rules that a tree with a policy keeps, over its whole lists.
pub record KeepsRules (items : List Item) : Type 0 where
  -- there are 1 to 256 states with distinct names
  pub some_state : 1 ≤ length (states items)
  pub few_states : length (states items) ≤ 256
  pub distinct : AllPairs (λ name other. name ≢ other) (states items)
  -- there is at most one `init` outside any state and in each state, and at most one `init-state`
  pub one_outside : length (inits_of (outside items)) ≤ 1
  pub one_each : All (λ inside. length (inits_of inside) ≤ 1) (of_states items)
  pub one_initial : length (init_states items) ≤ 1
  -- no `init` contains an external test or a `set-state`
  pub no_tests : tests_in_inits items ≡ []
  pub no_targets : targets_in_inits items ≡ []
  -- there are at most 64 distinct interfaces, 64 distinct external tests and 1,024 distinct commands
  pub few_interfaces : length (first_uses text_eq (interfaces items)) ≤ 64
  pub few_tests : length (first_uses test_eq (tests items)) ≤ 64
  pub few_commands : length (first_uses text_eq (commands items)) ≤ 1024
  -- each name and each command has 1 to 1,024 bytes and no NUL
  pub interfaces_fit : All TextFits (interfaces items)
  pub tests_fit : All (λ test. TextFits test.command) (tests items)
  pub commands_fit : All TextFits (commands items)
  pub states_fit : All TextFits (states items)
  -- each target is a defined state
  pub targets_known : All (Contains (states items)) (targets items)
  pub initial_known : All (Contains (states items)) (init_states items)
