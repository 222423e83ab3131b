-- The states before this one.
use Rattle.ifs_solver.specs.Asking.{guard_of}
use Rattle.ifs_claims.specs.inner.Elsewhere.{IsElsewhereBefore}
use Rattle.ifs_claims.proofs.claims.rests_in.Given as goal

abbrev pub invariant-loop-index : goal.invariant-loop-index
invariant-loop-index l = IsElsewhereBefore l.reachable l.states (guard_of l.guard) l.index l.extent
