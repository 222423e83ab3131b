-- A condition fits if its leaves do.
use Rattle.ifs_parse.specs.Trees as tree
use Rattle.ifs_policy.specs.declared.policy.Single.{Single}
use Rattle.ifs_policy.specs.Fits.{ConditionFits, SingleFits, Sizes}
use Rattle.ifs_policy.specs.Leaves.{HasLeaves}

pub leaves_fit : (sizes : Sizes) (condition : tree.Condition Single) → HasLeaves (SingleFits sizes) condition → ConditionFits sizes condition
leaves_fit sizes (tree.Leaf single) h = h
leaves_fit sizes (tree.NotSo operand) h = leaves_fit sizes operand h
leaves_fit sizes (tree.And left right) h = (leaves_fit sizes left h.0, leaves_fit sizes right h.1)
leaves_fit sizes (tree.Or left right) h = (leaves_fit sizes left h.0, leaves_fit sizes right h.1)
