-- The init of the state runs the command under no facts.
use Rattle.std.proofs.Common.{subst, ◌≡◌, []}
use Rattle.ifs_solver.specs.Asking.{guard_of, IsExtentAmong}
use Rattle.ifs_solver.specs.FactSets.{Within, fact_set_of, full_fact_set}
use Rattle.ifs_claims.specs.inner.Reaching.{where_runs}
use Rattle.ifs_claims.proofs.Quiet.{full_found, init_nowhere}
use Rattle.ifs_claims.proofs.running.ask_own_init.Goals as goal

pub returns-in-Nowhere : goal.returns-in-Nowhere
returns-in-Nowhere c =
    init_nowhere c.args.ban.reachable.now c.args.ban.command (guard_of c.args.ban.guard) c.args.state c.args.part.now c.in_ok-running.running c.in-Nowhere.is c.requires
    (full_found c.args.ban.reachable.now (where_runs [] c.args.ban.command c.args.part.now.init) (fact_set_of c.in_ok-all.all) c.in_ok-running.running (subst (λ scope. fact_set_of c.in_ok-all.all ≡ full_fact_set scope) c.scope.ensures c.in_ok-all.ensures)
    (subst (λ xs. IsExtentAmong (Within (fact_set_of c.in_ok-all.all)) (where_runs xs c.args.ban.command c.args.part.now.init) c.in_ok-running.running) c.new-context.ensures.items c.in_ok-running.ensures))
