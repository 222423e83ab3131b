-- The outcomes differ under these facts.
use Rattle.std.proofs.Common.{IfSome, subst}
use Rattle.ifs_solver.specs.FactSets.{fact_set_of}
use Rattle.ifs_compare.specs.inner.Evaluating.{AreOutcomes}
use Rattle.ifs_compare.proofs.Moments.{moments_differ}
use Rattle.ifs_compare.proofs.choosing.witness_at.Goals as goal

pub returns : goal.returns
returns c = λ yes.
    let stage = c.args.stage.now in
    let point = fact_set_of c.args.point in
    moments_differ stage.scope point stage.sides c.args.moment c.in-Some.outcomes c.if-not-are_of.ensures c.if-not-is_there.ensures
    (subst (λ known. IfSome known (λ outcomes. AreOutcomes point stage.sides c.args.moment outcomes)) c.in-Some.is c.in_ok-outcomes.ensures) c.if-not-differ.ensures
