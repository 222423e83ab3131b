-- The levels of the rows so far are there.
use Rattle.std.proofs.Common.{take, All}
use Rattle.ifs_levels.specs.Within.{IsRestAmong}
use Rattle.ifs_levels.proofs.table.levels_in.Given as goal

abbrev pub invariant-loop-row : goal.invariant-loop-row
invariant-loop-row l = All (IsRestAmong l.state l.ranges.items) (take l.row-index l.rows)
