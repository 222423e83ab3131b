-- Two bodies.
use Rattle.std.proofs.Common.{sym, subst}
use Rattle.ifs_solver.specs.FactSets.{fact_set_of}
use Rattle.ifs_solver.specs.declared.reaching.Handler.TheVariants as handler
use Rattle.ifs_compare.specs.inner.Comparing.{IsHeldOf}
use Rattle.ifs_compare.proofs.Searched.{bodies_held}
use Rattle.ifs_compare.proofs.searching.held_of.Goals as goal

pub returns-in-Body-Body : goal.returns-in-Body-Body
returns-in-Body-Body c =
    let range = fact_set_of c.args.range.now in
    let old = c.in-Body-Body.old in
    let new = c.in-Body-Body.new in
    subst (λ h. IsHeldOf range h c.args.pair.new c.held_by.result) (sym c.in-Body-Body.is-0)
    (subst (λ h. IsHeldOf range (handler.Body old) h c.held_by.result) (sym c.in-Body-Body.is-1)
    (bodies_held range old new c.judge_held.result c.judge_held-in-Body-Body.result c.held_by.result c.judge_held.ensures c.judge_held-in-Body-Body.ensures c.held_by.ensures))
