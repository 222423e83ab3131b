-- The leaves have their places, and fit.
use Rattle.ifs_policy.specs.Fits.{sizes_of}
use Rattle.ifs_claim_parse.proofs.Fitted.{leaves_fit}
use Rattle.ifs_claim_parse.proofs.placing.place_condition.Goals as goal

pub returns : goal.returns
returns c = record {
  is = c.in_ok-placed.ensures.is;
  fits = leaves_fit (sizes_of c.args.tables.now) c.in_ok-placed.placed c.in_ok-placed.ensures.fit;
}
