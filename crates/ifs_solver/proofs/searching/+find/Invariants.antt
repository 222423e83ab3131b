-- Each call has a smaller budget, or is a further part of a search with the same one.
use Rattle.std.proofs.Common.{◌+◌, ◌*◌}
use Rattle.ifs_solver.proofs.searching.+find.Given as goal

abbrev pub decreases-find : goal.decreases-find
decreases-find l = 3 * l.budget

abbrev pub decreases-find_part : goal.decreases-find_part
decreases-find_part l = 3 * l.budget + 1

abbrev pub decreases-split : goal.decreases-split
decreases-split l = 3 * l.budget + 2
