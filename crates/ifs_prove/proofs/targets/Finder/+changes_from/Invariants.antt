-- Each call has fewer changes left, or is a further part of the search with the same number.
use Rattle.std.proofs.Common.{◌+◌, ◌*◌}
use Rattle.ifs_prove.proofs.targets.Finder.+changes_from.Given as goal

abbrev pub decreases-changes_by : goal.decreases-changes_by
decreases-changes_by l = 2 * l.left + 2

abbrev pub decreases-changes_from : goal.decreases-changes_from
decreases-changes_from l = 2 * l.wanted + 1
