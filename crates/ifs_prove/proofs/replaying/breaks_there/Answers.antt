-- The situation of the core is that of the policy.
use Rattle.std.proofs.Common.{subst}
use Rattle.std.specs.Bool.{OnTrue}
use Rattle.ifs_prove.specs.Breaking.{IsBrokenIn}
use Rattle.ifs_prove.proofs.Made.{in_situation}
use Rattle.ifs_prove.proofs.replaying.breaks_there.Goals as goal

pub returns : goal.returns
returns c = λ known begun h.
    subst (λ s. OnTrue c.breaks_in.result (IsBrokenIn c.args.policy.now c.args.claim.now s)) (in_situation c.args.policy.now known begun c.cores_are_in_situations.ensures c.args.core.now h) c.breaks_in.ensures
