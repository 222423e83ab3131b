-- The guard is that of the premise.
use Rattle.std.proofs.Common.{IfOk, subst}
use Rattle.ifs_claims.specs.Told.{IsToldOfRuns}
use Rattle.ifs_solver.specs.Asking.{Guard}
use Rattle.ifs_prove.proofs.judging.never_runs_while.Goals as goal

pub returns-clause-told : goal.returns-clause-told
returns-clause-told c = subst (λ (guard : Guard). IfOk c.never_runs.result (IsToldOfRuns c.args.entered.now c.args.command guard)) c.guard_of-guard.ensures c.never_runs.ensures.told
