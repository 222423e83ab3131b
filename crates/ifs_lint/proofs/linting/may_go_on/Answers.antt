-- The answer for as many changes as there are states.
use Rattle.std.proofs.Common.{subst}
use Rattle.ifs_claims.specs.Changes.{IsToldOfChanges, RestsWithin}
use Rattle.ifs_lint.proofs.linting.may_go_on.Goals as goal

pub returns-in-Nowhere : goal.returns-in-Nowhere
returns-in-Nowhere c =
    subst (RestsWithin c.args.policy.now) c.counts.ensures.states
    (subst (λ policy. RestsWithin policy c.counts.result.states) c.in_ok-reachable.ensures (subst (IsToldOfChanges c.in_ok-reachable.reachable c.counts.result.states) c.in-Nowhere.is c.in_ok-told.ensures.told))
