-- One more set.
use Rattle.std.proofs.Common.{◌≡◌, ◌+◌, ◌<◌, length, get_or, sym, subst, take}
use Rattle.ifs_gen.specs.Trees.{Part}
use Rattle.ifs_solver.specs.declared.fact_sets.FactSet.{FactSet}
use Rattle.ifs_claims.specs.inner.AskedSets.{AreAskedSets, IsAskedSet}
use Rattle.ifs_claims.proofs.Zipped.{zip_more}
use Rattle.ifs_claims.proofs.asked_sets.asked_sets.Goals as goal

pub loop-part-preserved : goal.loop-part-preserved
loop-part-preserved c =
    let policy = c.args.policy.now in
    let i = c.loop-part.part-index in
    let value = c.states-part-items.ensures.value in
    subst (AreAskedSets policy (take (i + 1) policy.states)) (sym c.in_ok-push.ensures.items)
    (zip_more (λ (part : Part) (set : FactSet). IsAskedSet policy part set) policy.states c.loop-part.sets.items i c.part-item.result c.in_ok-set.set (subst (λ parts. i < length parts) value c.loop-part-test.true) (subst (λ parts. c.part-item.result ≡ get_or parts i c.part-item.result) value c.part-item.is) c.loop-part.invariant c.in_ok-set.ensures)
