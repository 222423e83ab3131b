-- What every table has.
use Rattle.std.proofs.Common.{subst}
use Rattle.ifs_levels.specs.Rows.{HasAll}
use Rattle.ifs_levels.proofs.table.LevelTable.rows.Goals as goal

pub returns-clause-all : goal.returns-clause-all
returns-clause-all c = subst HasAll c.self.view_is c.self.invariant
