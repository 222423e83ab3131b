use Rattle.ifs_verify.proofs.Verdict.{check_refuses, refused_once, sized}
use Rattle.ifs_verify.proofs.verifying.verify.Goals as goal

pub check-requires : goal.check-requires
check-requires c = sized c.in_ok-image.image c.in_ok-image.ensures.found.fits

pub returns-clause-not_accepted : goal.returns-clause-not_accepted
returns-clause-not_accepted c = refused_once c.args.bytes.now c.in_ok-image.image c.in-Err.fault c.in-Err.ensures.refused c.in_ok-image.ensures.only

pub returns-clause-refused : goal.returns-clause-refused
returns-clause-refused c = check_refuses c.args.bytes.now c.in_ok-image.image c.in-Err.fault c.in_ok-image.ensures.found c.in-Err.ensures.refused
