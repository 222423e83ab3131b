-- The mentions in the parts so far.
use Rattle.std.proofs.Common.{◌≡◌, ◌++◌, map, take}
use Rattle.std.specs.List.{flat_map}
use Rattle.ifs_policy.specs.Mentions.{part_mentions}
use Rattle.ifs_policy.specs.declared.mention.Owner.TheVariants.{State}
use Rattle.ifs_policy.specs.inner.Seen.{seen}
use Rattle.ifs_policy.proofs.mention.mention_item.Given as goal

abbrev pub invariant-loop-part : goal.invariant-loop-part
invariant-loop-part l = map seen l.mentions.items ≡ map seen l.initial.mentions.items ++ flat_map (part_mentions State) (take l.part-index l.part-items)
