-- The operands so far are the same. Those of a chain are smaller than it.
use Rattle.std.proofs.Common.{◌≡◌, ◌+◌, ◌*◌, take}
use Rattle.ifs_parse.specs.Trees.{condition_size}
use Rattle.ifs_policy.proofs.Replaced.{greatest}
use Rattle.ifs_compare.proofs.identity.+same_condition.Given as goal

abbrev pub decreases-same_condition : goal.decreases-same_condition
decreases-same_condition l = 2 * condition_size l.one.now

abbrev pub decreases-same_operands : goal.decreases-same_operands
decreases-same_operands l = 2 * greatest l.one.now + 1

abbrev pub invariant-same_operands-loop-index : goal.invariant-same_operands-loop-index
invariant-same_operands-loop-index l = take l.index l.one ≡ take l.index l.other
