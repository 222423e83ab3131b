-- What evaluations say of any moment.
use Rattle.ifs_claims.proofs.Truths.{moment_never, moment_told}
use Rattle.ifs_claims.proofs.claims.never_in.Goals as goal
use Rattle.ifs_solver.specs.Asking.{guard_of}

pub returns-then-is_never-clause-told : goal.returns-then-is_never-clause-told
returns-then-is_never-clause-told c = moment_never c.args.reachable.now c.args.state (guard_of c.args.guard) c.if-is_never.ensures

pub returns-clause-told : goal.returns-clause-told
returns-clause-told c = moment_told c.args.reachable.now c.args.state (guard_of c.args.guard) c.in_ok-extent.extent c.within.result c.in_ok-extent.ensures c.within.ensures.told
