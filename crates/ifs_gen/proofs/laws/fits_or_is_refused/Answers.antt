use Rattle.ifs_gen.proofs.laws.fits_or_is_refused.Goals as goal
use Rattle.ifs_gen.proofs.Refusing as refusing

pub returns : goal.returns
returns c = refusing.fits_or_is_refused
