-- What evaluations say of steps.
use Rattle.ifs_claims.proofs.Entries.{entry_while_told}
use Rattle.ifs_claims.proofs.claims.never_enters_while.Goals as goal
use Rattle.ifs_solver.specs.Asking.{guard_of}

pub returns-clause-told : goal.returns-clause-told
returns-clause-told c = entry_while_told c.active_are_mentioned.ensures c.args.reachable.now c.args.next (guard_of c.args.guard) c.in_ok-extent.extent c.within.result c.in_ok-extent.ensures c.within.ensures.told
