-- The parts so far are borrowed.
use Rattle.std.proofs.Common.{◌≡◌, take}
use Rattle.ifs_policy.specs.inner.Sized.{borrowed}
use Rattle.ifs_policy.proofs.placing.borrow_all.Given as goal

abbrev pub invariant-loop-part : goal.invariant-loop-part
invariant-loop-part l = borrowed l.made.items ≡ take l.part-index l.parts
