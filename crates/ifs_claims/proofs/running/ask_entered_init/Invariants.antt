-- The states before this one.
use Rattle.ifs_claims.specs.inner.Running.{AreInitsBefore}
use Rattle.ifs_claims.proofs.running.ask_entered_init.Given as goal
use Rattle.ifs_solver.specs.Asking.{guard_of}

abbrev pub invariant-loop-index : goal.invariant-loop-index
invariant-loop-index l = AreInitsBefore l.ban.reachable.now l.ban.command (guard_of l.ban.guard) l.state l.index l.extent
