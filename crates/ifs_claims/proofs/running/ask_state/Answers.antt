-- Both handlers of the state.
use Rattle.std.proofs.Common.{sym, subst}
use Rattle.ifs_solver.specs.Asking.{guard_of}
use Rattle.ifs_claims.specs.inner.Running.{IsState}
use Rattle.ifs_claims.proofs.Quiet.{state_said}
use Rattle.ifs_claims.proofs.running.ask_state.Goals as goal

pub returns : goal.returns
returns c =
    subst (IsState c.args.ban.reachable.now c.args.ban.command (guard_of c.args.ban.guard) c.args.state) (sym c.either.ensures)
    (state_said c.args.ban.reachable.now c.args.ban.command (guard_of c.args.ban.guard) c.args.state c.in-Some.part.now c.in_ok-by_body.by_body c.in_ok-by_init.by_init c.in-Some.ensures.there c.in_ok-by_body.ensures c.in_ok-by_init.ensures)
