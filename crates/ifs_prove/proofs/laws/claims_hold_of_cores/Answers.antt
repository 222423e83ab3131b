use Rattle.ifs_prove.proofs.CarriedOver.{claims_hold_of_cores}
use Rattle.ifs_prove.proofs.laws.claims_hold_of_cores.Goals as goal

pub returns : goal.returns
returns c = claims_hold_of_cores c.claims_carry_over.ensures c.changes_carry_over.ensures
