-- There is no `init` in the parts so far.
use Rattle.std.proofs.Common.{◌≡◌, drop}
use Rattle.ifs_policy.specs.Resolution.{init_in}
use Rattle.ifs_policy.specs.inner.Sized.{borrowed}
use Rattle.ifs_policy.proofs.placing.place_init.Given as goal

abbrev pub invariant-loop-part : goal.invariant-loop-part
invariant-loop-part l = init_in (borrowed (drop l.part-index l.parts)) ≡ init_in (borrowed l.parts)
