-- Trees of conditions and of statements, over their leaves.
use Rattle.std.specs.Prelude.{ℕ, ◌+◌}

-- A condition: a leaf, or conditions under `!`, `&&` or `||`.
pub data Condition (Leaf : Type 0) : Type 0 where
  Leaf : Leaf → Condition Leaf
  NotSo : Condition Leaf → Condition Leaf
  And : Condition Leaf → Condition Leaf → Condition Leaf
  Or : Condition Leaf → Condition Leaf → Condition Leaf

-- Statements in order. Each runs a command, wishes for a state, or executes a block if a condition is true.
pub data Block (Leaf Command State : Type 0) : Type 0 where
  Done : Block Leaf Command State
  RunThen : Command → Block Leaf Command State → Block Leaf Command State
  SetStateThen : State → Block Leaf Command State → Block Leaf Command State
  IfThen : Condition Leaf → Block Leaf Command State → Block Leaf Command State → Block Leaf Command State

-- The number of leaves and operators of a condition.
abbrev pub condition_size : {Leaf : Type 0} → Condition Leaf → ℕ
condition_size (Leaf l) = 1
condition_size (NotSo c) = condition_size c + 1
condition_size (And a b) = condition_size a + condition_size b + 1
condition_size (Or a b) = condition_size a + condition_size b + 1

-- One more than the number of statements of a block, at any depth.
abbrev pub block_size : {Leaf Command State : Type 0} → Block Leaf Command State → ℕ
block_size Done = 1
block_size (RunThen command rest) = block_size rest + 1
block_size (SetStateThen state rest) = block_size rest + 1
block_size (IfThen c inner rest) = block_size inner + block_size rest + 1
