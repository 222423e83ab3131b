-- The states before this one.
use Rattle.ifs_solver.specs.Asking.{guard_of}
use Rattle.ifs_claims.specs.inner.Entering.{IsFromBefore}
use Rattle.ifs_claims.proofs.claims.ask_entering.Given as goal

abbrev pub invariant-loop-index : goal.invariant-loop-index
invariant-loop-index l = IsFromBefore l.reachable l.next (guard_of l.guard) l.index l.extent
