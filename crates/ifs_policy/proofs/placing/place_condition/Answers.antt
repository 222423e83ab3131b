-- The leaves have their places.
use Rattle.ifs_policy.proofs.placing.place_condition.Goals as goal

pub returns : goal.returns
returns c = c.in_ok-placed.ensures.is
