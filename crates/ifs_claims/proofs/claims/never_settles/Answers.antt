-- What the facts of one evaluation say of all steps.
use Rattle.ifs_claims.proofs.Elsewhere.{settling_told}
use Rattle.ifs_claims.proofs.claims.never_settles.Goals as goal
use Rattle.ifs_solver.specs.Asking.{guard_of}

pub returns-clause-told : goal.returns-clause-told
returns-clause-told c = settling_told c.args.reachable.now (guard_of c.args.guard) c.args.state c.in_ok-extent.extent c.within.result c.in_ok-extent.ensures c.within.ensures.told
