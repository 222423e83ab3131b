-- The guard is that of the premise.
use Rattle.std.proofs.Common.{IfOk, subst}
use Rattle.ifs_claims.specs.Told.{IsToldOfRests}
use Rattle.ifs_solver.specs.Asking.{Guard}
use Rattle.ifs_prove.proofs.judging.rests_while.Goals as goal

pub returns-clause-told : goal.returns-clause-told
returns-clause-told c = subst (λ (guard : Guard). IfOk c.rests_in.result (IsToldOfRests c.args.entered.now c.args.states.now guard)) c.guard_of-guard.ensures c.rests_in.ensures.told
