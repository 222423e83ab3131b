-- The leaves are replaced.
use Rattle.ifs_claims.proofs.kept.kept_condition.Goals as goal

pub returns : goal.returns
returns c = c.in_ok-made.ensures.is
