-- What the steps end with.
use Rattle.std.proofs.Common.{[], sym, subst}
use Rattle.std.specs.Bool.{OnTrue}
use Rattle.ifs_prove.specs.declared.trial.Ending.{Ending}
use Rattle.ifs_prove.specs.Breaking.{IsBrokenBy}
use Rattle.ifs_prove.proofs.replaying.breaks_on.Goals as goal

pub returns-in-There : goal.returns-in-There
returns-in-There c = λ known h.
    subst (λ (ending : Ending). OnTrue c.breaks_there.result (IsBrokenBy c.args.policy.now known c.args.trial.now.begun.items ending c.args.claim.now)) (sym c.in-There.is)
    (c.breaks_there.ensures known c.args.trial.now.begun.items (rw c.as_slice.ensures.value at c.make_steps.ensures c.args.policy.now known [] h))
