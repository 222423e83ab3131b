-- The always body, and the states.
use Rattle.std.proofs.Common.{sym, subst}
use Rattle.ifs_solver.specs.Asking.{guard_of}
use Rattle.ifs_claims.specs.inner.Running.{AreEvaluations}
use Rattle.ifs_claims.proofs.Quiet.{evaluations_said}
use Rattle.ifs_claims.proofs.running.ask_evaluations.Goals as goal

pub returns : goal.returns
returns c =
    subst (AreEvaluations c.args.ban.reachable.now c.args.ban.command (guard_of c.args.ban.guard)) (sym c.either.ensures)
    (evaluations_said c.args.ban.reachable.now c.args.ban.command (guard_of c.args.ban.guard) c.in_ok-always.always c.in_ok-states.states c.in_ok-always.ensures c.in_ok-states.ensures)
