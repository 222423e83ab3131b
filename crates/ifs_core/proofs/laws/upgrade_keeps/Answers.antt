use Rattle.ifs_core.proofs.laws.upgrade_keeps.Goals as goal
use Rattle.ifs_core.proofs.Upgrades as upgrades

pub returns : goal.returns
returns c = upgrades.upgrade_keeps c.upgrade_keeps_acceptance.ensures c.upgrade_keeps_runs.ensures
