-- The mentions in the statements so far.
use Rattle.std.proofs.Common.{◌≡◌, ◌++◌, map, take}
use Rattle.std.specs.List.{flat_map}
use Rattle.ifs_policy.specs.Mentions.{statement_mentions}
use Rattle.ifs_policy.specs.inner.Seen.{seen}
use Rattle.ifs_policy.proofs.mention.+mention_block.Given as goal

abbrev pub invariant-mention_block-loop-statement : goal.invariant-mention_block-loop-statement
invariant-mention_block-loop-statement l = map seen l.mentions.items ≡ map seen l.initial.mentions.items ++ flat_map (statement_mentions l.half) (take l.statement-index l.statement-items)
