-- Under all facts, or in each state.
use Rattle.std.proofs.Common.{◌≡◌, ap, subst}
use Rattle.ifs_solver.specs.FactSets.{fact_set_of, full_fact_set}
use Rattle.ifs_solver.specs.Asking.{guard_of}
use Rattle.ifs_claims.specs.inner.Reaching.{where_body}
use Rattle.ifs_claims.proofs.Quiet.{always_everywhere, full_found}
use Rattle.ifs_claims.proofs.running.ask_always.Goals as goal

pub returns-in-Nowhere : goal.returns-in-Nowhere
returns-in-Nowhere c =
    always_everywhere c.args.ban.reachable.now c.args.ban.command (guard_of c.args.ban.guard) c.always.result.now.body c.in_ok-everywhere.everywhere c.in-Nowhere.is (ap (λ x. x.body) c.always.ensures)
    (full_found c.args.ban.reachable.now (where_body (guard_of c.args.ban.guard) c.args.ban.command c.always.result.now.body) (fact_set_of c.in_ok-all.all) c.in_ok-everywhere.everywhere
    (subst (λ scope. fact_set_of c.in_ok-all.all ≡ full_fact_set scope) c.scope.ensures c.in_ok-all.ensures) c.in_ok-everywhere.ensures)
