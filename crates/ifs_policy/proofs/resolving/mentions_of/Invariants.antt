-- The mentions in the items so far.
use Rattle.std.proofs.Common.{◌≡◌, map, take}
use Rattle.ifs_policy.specs.Mentions.{mentions_of}
use Rattle.ifs_policy.specs.inner.Seen.{seen}
use Rattle.ifs_policy.proofs.resolving.mentions_of.Given as goal

abbrev pub invariant-loop-item : goal.invariant-loop-item
invariant-loop-item l = map seen l.mentions.items ≡ mentions_of (take l.item-index l.items)
