-- The sets so far.
use Rattle.std.proofs.Common.{take}
use Rattle.ifs_claims.specs.inner.AskedSets.{AreAskedSets}
use Rattle.ifs_claims.proofs.asked_sets.asked_sets.Given as goal

abbrev pub invariant-loop-part : goal.invariant-loop-part
invariant-loop-part l = AreAskedSets l.policy (take l.part-index l.policy.states) l.sets.items
