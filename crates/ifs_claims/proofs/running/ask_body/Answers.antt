-- Under the condition, while it is not held back.
use Rattle.std.proofs.Common.{ap, subst, ◌∙◌, ◌++◌, ◌∷◌, []}
use Rattle.ifs_solver.specs.Asking.{IsExtentAmong}
use Rattle.ifs_solver.specs.FactSets.{Within, fact_set_of}
use Rattle.ifs_solver.specs.declared.constraints.Constraint.TheVariants.{Met, Free}
use Rattle.ifs_claims.specs.inner.Reaching.{where_runs}
use Rattle.ifs_claims.proofs.Quiet.{body_found}
use Rattle.ifs_claims.proofs.running.ask_body.Goals as goal

pub returns : goal.returns
returns c =
    body_found (Within (fact_set_of c.args.set.now)) c.args.ban.guard c.args.ban.command c.args.body c.in_ok-extent.extent
    (subst (λ xs. IsExtentAmong (Within (fact_set_of c.args.set.now)) (where_runs xs c.args.ban.command c.args.body.now) c.in_ok-extent.extent)
    (c.in_ok-push-2.ensures.items ∙ ap (λ xs. xs ++ Free c.args.body ∷ []) (c.in_ok-push.ensures.items ∙ ap (λ xs. xs ++ Met c.args.ban.guard ∷ []) c.new-context.ensures.items)) c.in_ok-extent.ensures)
