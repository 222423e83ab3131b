use Rattle.ifs_core.proofs.KnownLinks.{links_stand}
use Rattle.ifs_core.proofs.laws.links_stand.Goals as goal

pub returns : goal.returns
returns c = links_stand
