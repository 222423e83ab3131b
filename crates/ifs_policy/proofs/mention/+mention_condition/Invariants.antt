-- The mentions in the operands so far.
use Rattle.std.proofs.Common.{◌≡◌, ◌++◌, map, take}
use Rattle.std.specs.List.{flat_map}
use Rattle.ifs_policy.specs.Mentions.{condition_mentions}
use Rattle.ifs_policy.specs.inner.Seen.{seen}
use Rattle.ifs_policy.proofs.mention.+mention_condition.Given as goal

abbrev pub invariant-loop-operand : goal.invariant-loop-operand
invariant-loop-operand l = map seen l.mentions.items ≡ map seen l.initial.mentions.items ++ flat_map (condition_mentions l.half) (take l.operand-index l.operand-items)
