-- The parts of a tree are smaller than it.
use Rattle.std.specs.Prelude.{ℕ, ◌+◌, ◌<◌, ◌≤◌, max, List, [], ◌∷◌}
use Rattle.std.specs.List.{AllByRecursion}
use Rattle.std.proofs.Common.{arith}
use denote.Param.Weighed.{most}
use Rattle.ifs_parse.specs.Trees as tree
use Rattle.ifs_parse.specs.Views.{joined_of, condition_of, block_of, AreBelow, OperandsBelow, InnerBelow}
use Rattle.ifs_parse.specs.declared.condition.Node.{Node}
use Rattle.ifs_parse.specs.declared.condition.Node.TheVariants.{Leaf, Not, All, Any}
use Rattle.ifs_parse.specs.declared.condition.Condition.TheDeep.{deep-Node}
use Rattle.ifs_parse.specs.declared.block.Statement.{Statement}
use Rattle.ifs_parse.specs.declared.block.Statement.TheVariants.{Run, SetState, If}
use Rattle.ifs_parse.specs.declared.block.Block.TheDeep.{deep-Statement}

-- An operator makes a condition that is greater than its two operands together.
abbrev Grows : {L : Type 0} → (tree.Condition L → tree.Condition L → tree.Condition L) → Type 0
Grows {L = L} join = (a b : tree.Condition L) → tree.condition_size a + tree.condition_size b + 1 ≤ tree.condition_size (join a b)

and_grows : {L : Type 0} → Grows {L = L} tree.And
and_grows a b = omega arith

or_grows : {L : Type 0} → Grows {L = L} tree.Or
or_grows a b = omega arith

-- The first operand of a chain is no greater than the chain, and the others are smaller.
chain_grows : {L : Type 0} (join : tree.Condition L → tree.Condition L → tree.Condition L) → Grows join → (first : tree.Condition L) (rest : List (tree.Condition L))
    → max (tree.condition_size first) (most (λ c. tree.condition_size c + 1) rest) ≤ tree.condition_size (joined_of join first rest)
chain_grows join grows first [] = omega arith
chain_grows join grows first (next ∷ rest) = omega (arith, grows first next, chain_grows join grows (join first next) rest)

-- The parts of a node are smaller than its condition.
pub node_is_smaller : {L : Type 0} (n : Node L) → max (deep-Node L n) 0 ≤ tree.condition_size (condition_of n)
node_is_smaller (Leaf l) = omega arith
node_is_smaller (Not inner) = omega arith
node_is_smaller (All first second rest) = omega (arith, chain_grows tree.And and_grows (tree.And first.value second.value) rest.items)
node_is_smaller (Any first second rest) = omega (arith, chain_grows tree.Or or_grows (tree.Or first.value second.value) rest.items)

-- The blocks of statements are smaller than the block of these statements.
pub statements_are_smaller : {L R S : Type 0} (statements : List (Statement L R S))
    → max (most (λ s. deep-Statement L R S s) statements) 0 ≤ tree.block_size (block_of statements)
statements_are_smaller [] = omega arith
statements_are_smaller (Run command ∷ rest) = omega (arith, statements_are_smaller rest)
statements_are_smaller (SetState state ∷ rest) = omega (arith, statements_are_smaller rest)
statements_are_smaller (If c inner ∷ rest) = omega (arith, statements_are_smaller rest)

-- Items whose sizes are below the greatest are below any bound of it.
below_most : {A : Type 0} (size : A → ℕ) (n : ℕ) (items : List A) → most (λ a. size a + 1) items ≤ n → AllByRecursion (λ a. size a < n) items
below_most size n [] h = tt
below_most size n (a ∷ items) h = (omega (arith, h), below_most size n items (omega (arith, h)))

chain_is_below : {L : Type 0} (join : tree.Condition L → tree.Condition L → tree.Condition L) → Grows join → (first second : tree.Condition L) (rest : List (tree.Condition L))
    → AreBelow (tree.condition_size (joined_of join (join first second) rest)) first second rest
chain_is_below join grows first second rest =
    let two = grows first second in
    let all = chain_grows join grows (join first second) rest in
    (omega arith, omega arith, below_most tree.condition_size _ rest (omega arith))

pub operands_are_below : {L : Type 0} (n : Node L) → OperandsBelow (tree.condition_size (condition_of n)) n
operands_are_below (Leaf l) = tt
operands_are_below (Not inner) = omega arith
operands_are_below (All first second rest) = chain_is_below tree.And and_grows first.value second.value rest.items
operands_are_below (Any first second rest) = chain_is_below tree.Or or_grows first.value second.value rest.items

-- The blocks of statements are below each bound of the block of these statements.
statements_below : {L R S : Type 0} (n : ℕ) (statements : List (Statement L R S)) → tree.block_size (block_of statements) ≤ n
    → AllByRecursion (InnerBelow n) statements
statements_below n [] h = tt
statements_below n (Run command ∷ rest) h = (tt, statements_below n rest (omega (arith, h)))
statements_below n (SetState state ∷ rest) h = (tt, statements_below n rest (omega (arith, h)))
statements_below n (If c inner ∷ rest) h = (omega (arith, h), statements_below n rest (omega (arith, h)))

pub blocks_are_below : {L R S : Type 0} (statements : List (Statement L R S)) → AllByRecursion (InnerBelow (tree.block_size (block_of statements))) statements
blocks_are_below statements = statements_below _ statements (omega arith)
