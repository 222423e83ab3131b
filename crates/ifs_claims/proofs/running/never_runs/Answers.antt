-- Openings and evaluations.
use Rattle.ifs_claims.proofs.Quiet.{runs_told}
use Rattle.ifs_claims.proofs.running.never_runs.Goals as goal
use Rattle.ifs_solver.specs.Asking.{guard_of}

pub returns-clause-told : goal.returns-clause-told
returns-clause-told c =
    runs_told c.active_are_mentioned.ensures c.args.reachable.now c.args.command (guard_of c.args.guard) c.in_ok-opening.opening c.in_ok-evaluation.evaluation c.either-extent.result c.within.result c.in_ok-opening.ensures c.in_ok-evaluation.ensures c.either-extent.ensures
    c.within.ensures.told
