-- A policy within the limits: tables that are not too long, and numbers that refer to their entries.
use Rattle.std.specs.Prelude.{ℕ, ◌≡◌, ◌≢◌, ◌<◌, ◌≤◌, List, length, All, AllPairs}
use Rattle.ifs_base.specs.Sizes.{TextFits, PeriodFits}
use Rattle.ifs_base.specs.declared.ids.CommandId.{CommandId}
use Rattle.ifs_base.specs.declared.ids.StateId.{StateId}
use Rattle.ifs_parse.specs.Trees as tree
use Rattle.ifs_policy.specs.declared.policy.Single.{Single}
use Rattle.ifs_policy.specs.declared.policy.Single.TheVariants.{LinkIs, TestIs}
use Rattle.ifs_policy.specs.declared.policy.Handlers.{Handlers}
use Rattle.ifs_policy.specs.declared.policy.PolicyParts.{PolicyParts}
use Rattle.ifs_policy.specs.declared.tables.ExternalTest.{ExternalTest}
use Rattle.ifs_policy.specs.declared.tables.Tables.{Tables}

-- The number of entries of each table.
pub record Sizes : Type 0 where
  pub interfaces : ℕ
  pub tests : ℕ
  pub commands : ℕ
  pub states : ℕ

-- The numbers of entries of these tables.
abbrev pub sizes_of : Tables → Sizes
sizes_of tables = record { interfaces = length tables.interfaces; tests = length tables.tests; commands = length tables.commands; states = length tables.states }

-- The number of a single test refers to an entry.
abbrev pub SingleFits : Sizes → Single → Type 0
SingleFits sizes (LinkIs interface state) = interface.0 < sizes.interfaces
SingleFits sizes (TestIs test) = test.0 < sizes.tests

-- The numbers in a condition refer to entries.
abbrev pub ConditionFits : Sizes → tree.Condition Single → Type 0
ConditionFits sizes (tree.Leaf single) = SingleFits sizes single
ConditionFits sizes (tree.NotSo operand) = ConditionFits sizes operand
ConditionFits sizes (tree.And left right) = ConditionFits sizes left × ConditionFits sizes right
ConditionFits sizes (tree.Or left right) = ConditionFits sizes left × ConditionFits sizes right

-- The numbers in a block refer to entries.
abbrev pub BlockFits : Sizes → tree.Block Single CommandId StateId → Type 0
BlockFits sizes tree.Done = Unit {0}
BlockFits sizes (tree.RunThen command rest) = (command.0 < sizes.commands) × BlockFits sizes rest
BlockFits sizes (tree.SetStateThen state rest) = (state.0 < sizes.states) × BlockFits sizes rest
BlockFits sizes (tree.IfThen condition inner rest) = ConditionFits sizes condition × BlockFits sizes inner × BlockFits sizes rest

-- The numbers in a part's init and body refer to entries.
pub record HandlersFit (sizes : Sizes) (handlers : Handlers) : Type 0 where
  pub init : BlockFits sizes handlers.init
  pub body : BlockFits sizes handlers.body

-- A table of texts within a limit, in which each text is valid and none occurs twice.
pub record TableFits (limit : ℕ) (texts : List (List ℕ)) : Type 0 where
  pub within : length texts ≤ limit
  pub each : All TextFits texts
  pub distinct : AllPairs (λ text other. text ≢ other) texts

-- A table of tests within its limit, in which each command is valid and no test occurs twice.
pub record TestsFit (tests : List ExternalTest) : Type 0 where
  pub within : length tests ≤ 64
  pub each : All (λ test. TextFits test.command) tests
  pub distinct : AllPairs (λ test other. test ≢ other) tests

-- All tables within their limits.
pub record TablesFit (tables : Tables) : Type 0 where
  pub interfaces : TableFits 64 tables.interfaces
  pub tests : TestsFit tables.tests
  pub commands : TableFits 1024 tables.commands
  pub states : TableFits 256 tables.states

-- A policy whose tables are within their limits and whose numbers refer to entries.
pub record PolicyFits (policy : PolicyParts) : Type 0 where
  pub tables : TablesFit policy.tables
  pub periods : All (λ test. PeriodFits test.period) policy.tables.tests
  pub initial : policy.initial.0 < length policy.tables.states
  pub always : HandlersFit (sizes_of policy.tables) policy.always
  pub count : length policy.states ≡ length policy.tables.states
  pub states : All (HandlersFit (sizes_of policy.tables)) policy.states
