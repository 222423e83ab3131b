-- Each call has fewer moves, or is a further part of the search with the same number.
use Rattle.std.proofs.Common.{◌+◌, ◌*◌}
use Rattle.ifs_solver.proofs.rounds.Rounds.+go_on.Given as goal

abbrev pub decreases-arrive : goal.decreases-arrive
decreases-arrive l = 4 * l.moves

abbrev pub decreases-move_by : goal.decreases-move_by
decreases-move_by l = 4 * l.moves + 1

abbrev pub decreases-go_by : goal.decreases-go_by
decreases-go_by l = 4 * l.moves + 2

abbrev pub decreases-go_on : goal.decreases-go_on
decreases-go_on l = 4 * l.moves + 3
