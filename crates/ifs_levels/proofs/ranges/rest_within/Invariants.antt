-- Those so far do.
use Rattle.std.proofs.Common.{take, All}
use Rattle.ifs_levels.specs.Ranges.{is_within}
use Rattle.ifs_levels.specs.Within.{IsRestWithin}
use Rattle.ifs_levels.proofs.ranges.rest_within.Given as goal

abbrev pub invariant-loop-row : goal.invariant-loop-row
invariant-loop-row l = All (IsRestWithin l.state (is_within l.range)) (take l.row-index l.rows)
