-- The parts outside any state are borrowed, in the items so far.
use Rattle.std.proofs.Common.{◌≡◌, ◌++◌, drop}
use Rattle.ifs_policy.specs.Resolution.{always_of}
use Rattle.ifs_policy.specs.inner.Sized.{borrowed}
use Rattle.ifs_policy.proofs.placing.always_of.Given as goal

abbrev pub invariant-loop-item : goal.invariant-loop-item
invariant-loop-item l = borrowed l.made.items ++ always_of (drop l.item-index l.items) ≡ always_of l.items
