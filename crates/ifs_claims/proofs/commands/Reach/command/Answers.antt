-- The command itself.
use Rattle.std.proofs.Common.{subst}
use Rattle.ifs_solver.specs.Asking.{meets_all}
use Rattle.ifs_solver.specs.FactSets.{Within, fact_set_of}
use Rattle.ifs_claims.specs.inner.Widening.{WidensAmong}
use Rattle.ifs_claims.proofs.Reached.{same_runs}
use Rattle.ifs_claims.proofs.commands.Reach.command.Goals as goal

pub returns-clause-runs : goal.returns-clause-runs
returns-clause-runs c =
    same_runs (Within (fact_set_of c.args.self.now.set.now)) c.args.self.now.context.items c.args.self.now.command c.args.command c.args.before c.in_ok-after.after c.if-command-self.false
    (subst (λ xs. WidensAmong (Within (fact_set_of c.args.self.now.set.now)) (meets_all xs) c.args.before c.in_ok-after.after) c.as_slice-context.ensures.value c.in_ok-after.ensures)
