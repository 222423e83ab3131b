-- The states before this one.
use Rattle.ifs_claims.specs.inner.Running.{AreAlwaysBefore}
use Rattle.ifs_claims.proofs.running.ask_always_in_states.Given as goal
use Rattle.ifs_solver.specs.Asking.{guard_of}

abbrev pub invariant-loop-index : goal.invariant-loop-index
invariant-loop-index l = AreAlwaysBefore l.ban.reachable.now l.ban.command (guard_of l.ban.guard) l.index l.extent
