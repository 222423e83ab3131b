-- Conditions whose leaves are replaced.
use Rattle.std.specs.Prelude.{◌≡◌, List, map}
use Rattle.std.specs.List.{AllByRecursion}
use Rattle.ifs_parse.specs.Trees as tree

-- A condition with each leaf replaced.
abbrev pub replaced : {L M : Type 0} → (L → M) → tree.Condition L → tree.Condition M
replaced f (tree.Leaf leaf) = tree.Leaf (f leaf)
replaced f (tree.NotSo operand) = tree.NotSo (replaced f operand)
replaced f (tree.And left right) = tree.And (replaced f left) (replaced f right)
replaced f (tree.Or left right) = tree.Or (replaced f left) (replaced f right)

-- Each leaf of a condition is so.
abbrev pub HasLeaves : {L : Type 0} → (L → Type 0) → tree.Condition L → Type 0
HasLeaves P (tree.Leaf leaf) = P leaf
HasLeaves P (tree.NotSo operand) = HasLeaves P operand
HasLeaves P (tree.And left right) = HasLeaves P left × HasLeaves P right
HasLeaves P (tree.Or left right) = HasLeaves P left × HasLeaves P right

-- A condition has the leaves of another one, each replaced, and each new one is so.
pub record IsReplaced {L M : Type 0} (f : L → M) (P : M → Type 0) (condition : tree.Condition L) (made : tree.Condition M) : Type 0 where
  pub is : made ≡ replaced f condition
  pub fit : HasLeaves P made

-- The same of operands.
pub record AreReplaced {L M : Type 0} (f : L → M) (P : M → Type 0) (operands : List (tree.Condition L)) (made : List (tree.Condition M)) : Type 0 where
  pub are : made ≡ map (replaced f) operands
  pub fit : AllByRecursion (HasLeaves P) made
