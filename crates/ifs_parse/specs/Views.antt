-- The trees that the nodes of the code stand for.
use Rattle.std.specs.Prelude.{ℕ, ◌<◌, List, [], ◌∷◌}
use Rattle.std.specs.List.{AllByRecursion}
use Rattle.ifs_parse.specs.Trees as tree
use Rattle.ifs_parse.specs.declared.condition.Node.{Node}
use Rattle.ifs_parse.specs.declared.condition.Node.TheVariants.{Leaf, Not, All, Any}
use Rattle.ifs_parse.specs.declared.block.Statement.{Statement}
use Rattle.ifs_parse.specs.declared.block.Statement.TheVariants.{Run, SetState, If}

-- Operands joined from the left by one operator.
abbrev pub joined_of : {L : Type 0} → (tree.Condition L → tree.Condition L → tree.Condition L) → tree.Condition L → List (tree.Condition L) → tree.Condition L
joined_of join first [] = first
joined_of join first (next ∷ rest) = joined_of join (join first next) rest

-- Operands joined by `&&`.
abbrev pub all_of : {L : Type 0} → tree.Condition L → List (tree.Condition L) → tree.Condition L
all_of first rest = joined_of tree.And first rest

-- Operands joined by `||`.
abbrev pub any_of : {L : Type 0} → tree.Condition L → List (tree.Condition L) → tree.Condition L
any_of first rest = joined_of tree.Or first rest

-- The condition of a node.
abbrev pub condition_of : {L : Type 0} → Node L → tree.Condition L
condition_of (Leaf l) = tree.Leaf l
condition_of (Not inner) = tree.NotSo inner.value
condition_of (All first second rest) = all_of (tree.And first.value second.value) rest.items
condition_of (Any first second rest) = any_of (tree.Or first.value second.value) rest.items

-- A statement and those after it.
abbrev pub statement_then : {L R S : Type 0} → Statement L R S → tree.Block L R S → tree.Block L R S
statement_then (Run command) rest = tree.RunThen command rest
statement_then (SetState state) rest = tree.SetStateThen state rest
statement_then (If c inner) rest = tree.IfThen c inner rest

-- The block of statements in order.
abbrev pub block_of : {L R S : Type 0} → List (Statement L R S) → tree.Block L R S
block_of [] = tree.Done
block_of (statement ∷ rest) = statement_then statement (block_of rest)

-- Each operand of a chain is smaller than this.
abbrev pub AreBelow : {L : Type 0} → ℕ → tree.Condition L → tree.Condition L → List (tree.Condition L) → Type 0
AreBelow size first second rest = (tree.condition_size first < size) × (tree.condition_size second < size) × AllByRecursion (λ c. tree.condition_size c < size) rest

-- Each operand of a node is smaller than this.
abbrev pub OperandsBelow : {L : Type 0} → ℕ → Node L → Type 0
OperandsBelow size (Leaf l) = Unit {0}
OperandsBelow size (Not inner) = tree.condition_size inner.value < size
OperandsBelow size (All first second rest) = AreBelow size first.value second.value rest.items
OperandsBelow size (Any first second rest) = AreBelow size first.value second.value rest.items

-- The block of a statement is smaller than this.
abbrev pub InnerBelow : {L R S : Type 0} → ℕ → Statement L R S → Type 0
InnerBelow size (Run command) = Unit {0}
InnerBelow size (SetState state) = Unit {0}
InnerBelow size (If c inner) = tree.block_size inner < size
