-- They are those of the policy.
use Rattle.std.proofs.Common.{sym, subst}
use Rattle.ifs_gen.specs.Trees.{Policy}
use Rattle.ifs_levels.specs.declared.moments.Moment.TheVariants.{Opening}
use Rattle.ifs_levels.specs.Outcomes.{AreOutcomesOf}
use Rattle.ifs_levels.proofs.policy_outcomes.PolicyOutcomes.opening.Goals as goal

pub returns : goal.returns
returns c =
    subst (λ (p : Policy). AreOutcomesOf p Opening c.as_slice.result.now) c.self.view_is (subst (AreOutcomesOf c.self.inside.policy.now Opening) (sym c.as_slice.ensures.value) c.self.invariant.0)
