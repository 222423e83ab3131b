-- A policy whose numbers are replaced by the names that its tables have under them.
use Rattle.std.specs.Prelude.{ℕ, ◌≡◌, List, [], ◌∷◌, Option, Some, slice_get}
use Rattle.ifs_base.specs.declared.ids.CommandId.{CommandId}
use Rattle.ifs_base.specs.declared.ids.StateId.{StateId}
use Rattle.ifs_base.specs.declared.op.LinkState.{LinkState}
use Rattle.ifs_parse.specs.Trees as tree
use Rattle.ifs_parse.specs.Views.{block_of}
use Rattle.ifs_parse.specs.declared.tree.Name.{Name}
use Rattle.ifs_parse.specs.declared.tree.Test.{Test}
use Rattle.ifs_parse.specs.declared.tree.Test.TheVariants.{Link, External}
use Rattle.ifs_parse.specs.declared.tree.Wish.{Wish}
use Rattle.ifs_parse.specs.declared.tree.Part.{Part}
use Rattle.ifs_parse.specs.declared.tree.Part.TheVariants.{Init, Do}
use Rattle.ifs_parse.specs.declared.tree.Item.{Item}
use Rattle.ifs_parse.specs.declared.block.Statement.{Statement}
use Rattle.ifs_policy.specs.declared.policy.Single.{Single}
use Rattle.ifs_policy.specs.declared.policy.Single.TheVariants.{LinkIs, TestIs}
use Rattle.ifs_policy.specs.declared.policy.Handlers.{Handlers}
use Rattle.ifs_policy.specs.declared.policy.PolicyParts.{PolicyParts}
use Rattle.ifs_policy.specs.declared.tables.ExternalTest.{ExternalTest}
use Rattle.ifs_policy.specs.declared.tables.Tables.{Tables}
use Rattle.ifs_policy.specs.Tables.{test_of}
use Rattle.ifs_policy.specs.Whole.{TextBlock, inits_of, outside, of_states, init_states}

-- A single test with names. A number without an entry has none.
pub data NamedSingle : Type 0 where
  NamedLink : Option (List ℕ) → LinkState → NamedSingle
  NamedTest : Option ExternalTest → NamedSingle

-- A block with names of commands and states.
abbrev pub NamedBlock : Type 0
NamedBlock = tree.Block NamedSingle (Option (List ℕ)) (Option (List ℕ))

-- A condition with a name in place of each leaf. The law on names has its own definition, which no code is proved by.
abbrev pub with_leaves : {L M : Type 0} → (L → M) → tree.Condition L → tree.Condition M
with_leaves f (tree.Leaf leaf) = tree.Leaf (f leaf)
with_leaves f (tree.NotSo operand) = tree.NotSo (with_leaves f operand)
with_leaves f (tree.And left right) = tree.And (with_leaves f left) (with_leaves f right)
with_leaves f (tree.Or left right) = tree.Or (with_leaves f left) (with_leaves f right)

-- A block with each leaf, command and state replaced.
abbrev pub with_names : {L M C D S T : Type 0} → (L → M) → (C → D) → (S → T) → tree.Block L C S → tree.Block M D T
with_names f g h tree.Done = tree.Done
with_names f g h (tree.RunThen command rest) = tree.RunThen (g command) (with_names f g h rest)
with_names f g h (tree.SetStateThen state rest) = tree.SetStateThen (h state) (with_names f g h rest)
with_names f g h (tree.IfThen condition inner rest) = tree.IfThen (with_leaves f condition) (with_names f g h inner) (with_names f g h rest)

-- The names in a single test of a text.
abbrev pub text_single : Test → NamedSingle
text_single (Link name state) = NamedLink (Some name.text) state
text_single (External command period) = NamedTest (Some (test_of command period))

-- A block of a text with its names, without their places in the text.
abbrev pub text_block : TextBlock → NamedBlock
text_block block = with_names text_single (λ command. Some command.text) (λ target. Some target.state.text) block

-- The names that tables have for a single test of a policy.
abbrev pub named_single : Tables → Single → NamedSingle
named_single tables (LinkIs interface state) = NamedLink (slice_get tables.interfaces interface.0) state
named_single tables (TestIs test) = NamedTest (slice_get tables.tests test.0)

-- A block of a policy with the names that tables have for it.
abbrev pub named_block : Tables → tree.Block Single CommandId StateId → NamedBlock
named_block tables block = with_names (named_single tables) (λ command. slice_get tables.commands command.0) (λ state. slice_get tables.states state.0) block

-- The statements in a list of parts that are outside `init`s.
abbrev pub statements_of : List Part → List (Statement Test Name Wish)
statements_of [] = []
statements_of (Init place block ∷ rest) = statements_of rest
statements_of (Do statement ∷ rest) = statement ∷ statements_of rest

-- Handlers are those of a list of parts: the init is the block of the only `init`, or empty, and the body has the other statements in order.
pub record AreHandlersOf (tables : Tables) (parts : List Part) (handlers : Handlers) : Type 0 where
  pub no_init : inits_of parts ≡ [] → handlers.init ≡ tree.Done
  pub init : (block : TextBlock) → inits_of parts ≡ block ∷ [] → named_block tables handlers.init ≡ text_block block
  pub body : named_block tables handlers.body ≡ text_block (block_of (statements_of parts))

-- There are as many handlers as states, and each are those of the state's parts.
abbrev pub AreHandlersOfStates : Tables → List (List Part) → List Handlers → Type 0
AreHandlersOfStates tables [] [] = Unit {0}
AreHandlersOfStates tables (parts ∷ states) (handlers ∷ rest) = AreHandlersOf tables parts handlers × AreHandlersOfStates tables states rest
AreHandlersOfStates tables states handlers = ⊥

-- With its names, a policy says what the tree says.
pub record SaysTree (items : List Item) (policy : PolicyParts) : Type 0 where
  pub always : AreHandlersOf policy.tables (outside items) policy.always
  pub states : AreHandlersOfStates policy.tables (of_states items) policy.states
  -- the initial state has the name after `init-state`; without one, it is the first
  pub initial : (name : List ℕ) → init_states items ≡ name ∷ [] → slice_get policy.tables.states policy.initial.0 ≡ Some name
  pub first : init_states items ≡ [] → policy.initial.0 ≡ 0
