-- The states before this one.
use Rattle.std.proofs.Common.{take}
use Rattle.ifs_claim_parse.specs.Says.{AreApart}
use Rattle.ifs_claim_parse.proofs.next.expect_apart.Given as goal

abbrev pub invariant-loop-other : goal.invariant-loop-other
invariant-loop-other l = AreApart l.states (take l.other-index l.others)
