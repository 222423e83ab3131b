use Rattle.ifs_policy.proofs.Refusals.{refused_has_none}
use Rattle.ifs_policy.proofs.OneRefusal as once
use Rattle.ifs_policy.proofs.laws.one_refusal.Goals as goal

pub returns : goal.returns
returns c = record { none = refused_has_none; one = once.one_refusal }
