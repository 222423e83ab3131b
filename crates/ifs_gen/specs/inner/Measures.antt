-- Saturating numbers, and the measures of one statement.
use Rattle.std.specs.Prelude.{ℕ, ◌-◌, ◌^◌, min}
use Rattle.ifs_base.specs.declared.ids.CommandId.{CommandId}
use Rattle.ifs_base.specs.declared.ids.StateId.{StateId}
use Rattle.ifs_parse.specs.Views.{statement_then}
use Rattle.ifs_parse.specs.declared.block.Statement.{Statement}
use Rattle.ifs_gen.specs.Trees.{Single, Done}
use Rattle.ifs_gen.specs.PlainCode.{plain_coder, block_height, block_runs}

-- A number that saturates at the maximum of a `u64`.
abbrev pub capped : ℕ → ℕ
capped n = min n (2 ^ 64 - 1)

-- The greatest number of values of a statement on the stack.
abbrev pub statement_height : Statement Single CommandId StateId → ℕ
statement_height statement = block_height plain_coder (statement_then statement Done)

-- The number of commands of a statement.
abbrev pub statement_runs : Statement Single CommandId StateId → ℕ
statement_runs statement = block_runs (statement_then statement Done)
