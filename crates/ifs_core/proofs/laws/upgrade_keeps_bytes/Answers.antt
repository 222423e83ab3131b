use Rattle.ifs_core.proofs.laws.upgrade_keeps_bytes.Goals as goal
use Rattle.ifs_core.proofs.Upgrades as upgrades

pub returns : goal.returns
returns c = upgrades.upgrade_keeps_bytes c.one_spelling.ensures.some c.upgrade_keeps.ensures
