use Rattle.ifs_verify.proofs.Verdict as verdict
use Rattle.ifs_verify.proofs.laws.refused_are_not_accepted.Goals as goal

pub returns : goal.returns
returns c = verdict.refused_are_not_accepted c.one_image.ensures
