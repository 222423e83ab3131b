-- Each call has a smaller budget, or is a further part of a search with the same one.
use Rattle.std.proofs.Common.{◌+◌, ◌*◌}
use Rattle.ifs_compare.proofs.exploring.+explore.Given as goal

abbrev pub decreases-explore : goal.decreases-explore
decreases-explore l = 3 * l.budget

abbrev pub decreases-explore_part : goal.decreases-explore_part
decreases-explore_part l = 3 * l.budget + 1

abbrev pub decreases-explore_both : goal.decreases-explore_both
decreases-explore_both l = 3 * l.budget + 2
