use Rattle.ifs_verify.proofs.Versions.{accepted_alike}
use Rattle.ifs_verify.proofs.laws.upgrade_keeps_acceptance.Goals as goal

pub returns : goal.returns
returns c = λ image. accepted_alike 2 image
