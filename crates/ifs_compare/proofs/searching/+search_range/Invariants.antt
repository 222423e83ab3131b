-- Each call has a smaller budget, or is a further part of a search with the same one.
use Rattle.std.proofs.Common.{◌+◌, ◌*◌}
use Rattle.ifs_compare.proofs.searching.+search_range.Given as goal

abbrev pub decreases-search_range : goal.decreases-search_range
decreases-search_range l = 3 * l.budget

abbrev pub decreases-search_part : goal.decreases-search_part
decreases-search_part l = 3 * l.budget + 1

abbrev pub decreases-split : goal.decreases-split
decreases-split l = 3 * l.budget + 2
