use Rattle.ifs_core.proofs.laws.headline.Goals as goal

pub returns : goal.returns
returns c = λ bytes image verified. c.accepted_is_kept.ensures image verified.accepted verified.spelled.fits
