-- The code of one statement, and the instruction of a sign.
use Rattle.std.specs.Prelude.{ℕ, List}
use Rattle.ifs_base.specs.declared.ids.CommandId.{CommandId}
use Rattle.ifs_base.specs.declared.ids.StateId.{StateId}
use Rattle.ifs_base.specs.declared.op.Op.{Op}
use Rattle.ifs_base.specs.declared.op.Op.TheVariants.{Both, Either}
use Rattle.ifs_parse.specs.Views.{statement_then}
use Rattle.ifs_parse.specs.declared.block.Statement.{Statement}
use Rattle.ifs_parse.specs.declared.condition.Node.{Node}
use Rattle.ifs_parse.specs.declared.condition.Node.TheVariants.{Any}
use Rattle.ifs_gen.specs.Trees.{Single, Condition, Done}
use Rattle.ifs_gen.specs.Sharing.{shared_coder}
use Rattle.ifs_gen.specs.PlainCode.{Coder, block_code, code_size}

-- The code of a statement: that of a block of this statement alone.
abbrev pub statement_code : Coder → ℕ → Statement Single CommandId StateId → List Op
statement_code coder place statement = block_code coder place (statement_then statement Done)

-- The number of instructions of a statement.
abbrev pub statement_size : Coder → Statement Single CommandId StateId → ℕ
statement_size coder statement = code_size coder (statement_then statement Done)

-- The instruction that joins the operands of a node: `or` for `||`, else `and`.
abbrev pub joining_op : Node Single → Op
joining_op (Any first second rest) = Either
joining_op _ = Both

-- The code of the condition of an `if`, in code that calls those in a table.
abbrev pub test_code : List (List Op) → Condition → List Op
test_code table condition = (shared_coder table).code condition
