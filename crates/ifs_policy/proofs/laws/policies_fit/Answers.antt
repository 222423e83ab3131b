use Rattle.ifs_policy.proofs.Fitting.{resolved_fits}
use Rattle.ifs_policy.proofs.laws.policies_fit.Goals as goal

pub returns : goal.returns
returns c = resolved_fits
