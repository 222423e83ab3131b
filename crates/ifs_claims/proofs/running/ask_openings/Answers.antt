-- Both inits.
use Rattle.std.proofs.Common.{◌∙◌, ap, sym, subst}
use Rattle.ifs_solver.specs.FactSets.{fact_set_of}
use Rattle.ifs_solver.specs.Asking.{guard_of}
use Rattle.ifs_claims.specs.inner.Opening.{opening_fact_set}
use Rattle.ifs_claims.specs.inner.Running.{AreOpenings}
use Rattle.ifs_claims.proofs.Quiet.{openings_answered}
use Rattle.ifs_claims.proofs.running.ask_openings.Goals as goal

pub returns : goal.returns
returns c =
    subst (AreOpenings c.args.ban.reachable.now c.args.ban.command (guard_of c.args.ban.guard)) (sym c.either.ensures)
    (openings_answered c.args.ban.reachable.now c.args.ban.command (guard_of c.args.ban.guard) c.initial.result c.in-Some.part.now c.always.result.now.init (fact_set_of c.in_ok-set.set) c.in_ok-always.always c.in_ok-initial.initial c.initial.ensures
    c.in-Some.ensures.there (ap (λ x. x.init) c.always.ensures) (c.in_ok-set.ensures ∙ ap opening_fact_set c.scope.ensures) c.in_ok-always.ensures c.in_ok-initial.ensures)
