-- Each call has a smaller budget, or is a further part of a search with the same one.
use Rattle.std.proofs.Common.{◌+◌, ◌*◌}
use Rattle.ifs_levels.proofs.searching.+add_outcomes.Given as goal

abbrev pub decreases-add_outcomes : goal.decreases-add_outcomes
decreases-add_outcomes l = 3 * l.budget

abbrev pub decreases-add_part : goal.decreases-add_part
decreases-add_part l = 3 * l.budget + 1

abbrev pub decreases-split : goal.decreases-split
decreases-split l = 3 * l.budget + 2
