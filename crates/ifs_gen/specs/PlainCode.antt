-- The code of a policy's blocks, given the code of conditions; plain code, which shares no conditions; and the sizes of both.
use Rattle.std.specs.Prelude.{ℕ, zero, suc, ◌+◌, ◌*◌, ◌==◌, max, if◌then◌else◌, List, [], ◌∷◌, ◌++◌, length}
use Rattle.std.specs.List.{list_any}
use Rattle.ifs_base.specs.declared.ids.TestId.{TestId}
use Rattle.ifs_base.specs.declared.op.Op.{Op}
use Rattle.ifs_base.specs.declared.op.Op.TheVariants.{Ret, Link, Test, Known, Negate, Both, Either}
use Rattle.ifs_base.specs.declared.op.Op.TheVariants.{PushCommand, PushState, Queue, Want, JumpFalse}
use Rattle.ifs_parse.specs.Trees.{condition_size}
use Rattle.ifs_gen.specs.Trees.{Single, LinkIs, TestIs, Condition, Leaf, NotSo}
use Rattle.ifs_gen.specs.Trees.{And, Or, Block, Done, RunThen, SetStateThen, IfThen}
use Rattle.ifs_policy.specs.Meaning.{mentioned}

-- A way to compute conditions: the code, the number of its instructions, the greatest number of values that it pushes, the number of executed instructions, and the greatest number of frames with that of the handler.
pub record Coder : Type 0 where
  pub code : Condition → List Op
  pub size : Condition → ℕ
  pub height : Condition → ℕ
  pub cost : Condition → ℕ
  pub frames : ℕ

-- The instruction of a single test.
abbrev pub single_op : Single → Op
single_op (LinkIs interface state) = Link interface state
single_op (TestIs test) = Test test

-- The plain code of a condition, which computes every operand.
abbrev pub condition_code : Condition → List Op
condition_code (Leaf single) = single_op single ∷ []
condition_code (NotSo operand) = condition_code operand ++ Negate ∷ []
condition_code (And left right) = condition_code left ++ (condition_code right ++ Both ∷ [])
condition_code (Or left right) = condition_code left ++ (condition_code right ++ Either ∷ [])

-- The greatest number of values of a condition on the stack. The right operand comes above the left one's value.
abbrev pub condition_height : Condition → ℕ
condition_height (Leaf single) = 1
condition_height (NotSo operand) = condition_height operand
condition_height (And left right) = max (condition_height left) (condition_height right + 1)
condition_height (Or left right) = max (condition_height left) (condition_height right + 1)

-- Conditions in plain code: one instruction for each leaf and sign, each executed once.
abbrev pub plain_coder : Coder
plain_coder = record { code = condition_code; size = condition_size; height = condition_height; cost = condition_size; frames = 1 }

-- The number of instructions of a block.
abbrev pub code_size : Coder → Block → ℕ
code_size coder Done = 0
code_size coder (RunThen command rest) = 2 + code_size coder rest
code_size coder (SetStateThen state rest) = 2 + code_size coder rest
code_size coder (IfThen condition inner rest) = coder.size condition + 1 + code_size coder inner + code_size coder rest

-- The code of a block that begins at a place. If a condition is false, its block is skipped.
abbrev pub block_code : Coder → ℕ → Block → List Op
block_code coder place Done = []
block_code coder place (RunThen command rest) = PushCommand command ∷ Queue ∷ block_code coder (place + 2) rest
block_code coder place (SetStateThen state rest) = PushState state ∷ Want ∷ block_code coder (place + 2) rest
block_code coder place (IfThen condition inner rest) =
    let from = place + coder.size condition + 1 in
    let past = from + code_size coder inner in
    coder.code condition ++ (JumpFalse past ∷ (block_code coder from inner ++ block_code coder past rest))

-- The tests of a list below a number, by index.
abbrev pub tests_below : ℕ → List TestId → List TestId
tests_below zero tests = []
tests_below (suc count) tests = tests_below count tests ++ (if list_any (λ test. test.0 == count) tests then record { 0 = count } ∷ [] else [])

-- A body jumps to its end if one of these tests has no value.
abbrev pub held_code : ℕ → List TestId → List Op
held_code end [] = []
held_code end (test ∷ tests) = Known test ∷ JumpFalse end ∷ held_code end tests

-- The tests that hold a body back, in a policy with `count` tests.
abbrev pub holding : ℕ → Block → List TestId
holding count body = tests_below count (mentioned body)

-- The place where a body's statements begin.
abbrev pub body_start : ℕ → Block → ℕ
body_start count body = 2 * length (holding count body)

-- The place of the `ret` of a body.
abbrev pub body_end : Coder → ℕ → Block → ℕ
body_end coder count body = body_start count body + code_size coder body

-- The code of a body, in a policy with `count` tests.
abbrev pub body_code : Coder → ℕ → Block → List Op
body_code coder count body = held_code (body_end coder count body) (holding count body) ++ (block_code coder (body_start count body) body ++ Ret ∷ [])

-- The code of an init, which is never held back.
abbrev pub init_code : Coder → Block → List Op
init_code coder init = block_code coder 0 init ++ Ret ∷ []

-- The number of instructions of a body.
abbrev pub body_size : Coder → ℕ → Block → ℕ
body_size coder count body = body_end coder count body + 1

-- The number of instructions of an init.
abbrev pub init_size : Coder → Block → ℕ
init_size coder init = code_size coder init + 1

-- The greatest number of instructions that a block executes: all of its conditions are true.
abbrev pub block_limit : Coder → Block → ℕ
block_limit coder Done = 0
block_limit coder (RunThen command rest) = 2 + block_limit coder rest
block_limit coder (SetStateThen state rest) = 2 + block_limit coder rest
block_limit coder (IfThen condition inner rest) = coder.cost condition + 1 + block_limit coder inner + block_limit coder rest

-- The greatest number of instructions that a body executes.
abbrev pub body_limit : Coder → ℕ → Block → ℕ
body_limit coder count body = body_start count body + block_limit coder body + 1

-- The greatest number of instructions that an init executes.
abbrev pub init_limit : Coder → Block → ℕ
init_limit coder init = block_limit coder init + 1

-- The greatest number of values of a block on the stack.
abbrev pub block_height : Coder → Block → ℕ
block_height coder Done = 0
block_height coder (RunThen command rest) = max 1 (block_height coder rest)
block_height coder (SetStateThen state rest) = max 1 (block_height coder rest)
block_height coder (IfThen condition inner rest) = max (coder.height condition) (max (block_height coder inner) (block_height coder rest))

-- The number of commands in a block.
abbrev pub block_runs : Block → ℕ
block_runs Done = 0
block_runs (RunThen command rest) = 1 + block_runs rest
block_runs (SetStateThen state rest) = block_runs rest
block_runs (IfThen condition inner rest) = block_runs inner + block_runs rest
