-- The leaves have their numbers.
use Rattle.ifs_compare.proofs.renumbering.renumber_condition.Goals as goal

pub returns : goal.returns
returns c = c.in_ok-made.ensures.is
