use Rattle.ifs_core.proofs.Keeping.{is_kept}
use Rattle.ifs_core.proofs.laws.accepted_is_kept.Goals as goal

pub returns : goal.returns
returns c = λ image accepted fits. is_kept c.handlers_end.ensures c.runs_are_unique.ensures c.runs_follow.ensures c.runs_stay_within.ensures image accepted fits
