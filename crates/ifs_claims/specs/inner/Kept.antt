-- Conditions and blocks which say of the facts before an entry what others say of the facts after it.
use Rattle.std.specs.Prelude.{if◌then◌else◌}
use Rattle.ifs_base.specs.declared.ids.CommandId.{CommandId}
use Rattle.ifs_base.specs.declared.ids.StateId.{StateId}
use Rattle.ifs_base.specs.declared.ids.TestId.{TestId}
use Rattle.ifs_parse.specs.Trees.{Done, RunThen, SetStateThen, IfThen}
use Rattle.ifs_parse.specs.declared.block.Statement.{Statement}
use Rattle.ifs_parse.specs.declared.block.Statement.TheVariants.{Run, SetState, If}
use Rattle.ifs_policy.specs.Leaves.{replaced}
use Rattle.ifs_policy.specs.Meaning.{Block, Condition}
use Rattle.ifs_policy.specs.Visits.{mentions}
use Rattle.ifs_policy.specs.declared.policy.Single.{Single}
use Rattle.ifs_policy.specs.declared.policy.Single.TheVariants.{LinkIs, TestIs}
use Rattle.ifs_solver.specs.Asking.{Guard, condition_of, guard_with}

-- A test that no policy has, so that it has no value.
abbrev pub no_test : TestId
no_test = record { 0 = 65535 }

-- A single test. An entry takes the value of a test that the always body does not ask for: that test is replaced.
abbrev pub kept_single : Block → Single → Single
kept_single always (LinkIs interface state) = LinkIs interface state
kept_single always (TestIs test) = TestIs (if mentions test always then test else no_test)

-- A condition whose single tests are replaced.
abbrev pub kept_condition : Block → Condition → Condition
kept_condition always = replaced (kept_single always)

-- The guard of a condition whose single tests are replaced.
abbrev pub kept_guard : Block → Guard → Guard
kept_guard always guard = guard_with (kept_condition always (condition_of guard)) guard

-- A block whose conditions are replaced.
abbrev pub kept_block : Block → Block → Block
kept_block always Done = Done
kept_block always (RunThen command rest) = RunThen command (kept_block always rest)
kept_block always (SetStateThen state rest) = SetStateThen state (kept_block always rest)
kept_block always (IfThen condition inner rest) = IfThen (kept_condition always condition) (kept_block always inner) (kept_block always rest)

abbrev pub kept_statement : Block → Statement Single CommandId StateId → Statement Single CommandId StateId
kept_statement always (Run command) = Run command
kept_statement always (SetState state) = SetState state
kept_statement always (If condition block) = If (kept_condition always condition) (kept_block always block)
