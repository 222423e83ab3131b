-- A chain's operands are smaller than it; those so far are replaced.
use Rattle.std.proofs.Common.{◌+◌, ◌*◌, take}
use Rattle.ifs_parse.specs.Trees.{condition_size}
use Rattle.ifs_policy.specs.Leaves.{AreReplaced}
use Rattle.ifs_policy.proofs.Replaced.{greatest}
use Rattle.ifs_policy.proofs.replacing.+replace_leaves.Given as goal

abbrev pub decreases-replace_leaves : goal.decreases-replace_leaves
decreases-replace_leaves g l = 2 * condition_size l.condition.now

abbrev pub decreases-replace_operands : goal.decreases-replace_operands
decreases-replace_operands g l = 2 * greatest l.operands.now + 1

abbrev pub invariant-replace_operands-loop-operand : goal.invariant-replace_operands-loop-operand
invariant-replace_operands-loop-operand g l = AreReplaced (g.M.LeafMap.image l.map) (g.M.LeafMap.fits l.map) (take l.operand-index l.operands) l.made.items
