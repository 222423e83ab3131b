-- The moves that are left show what was found.
use Rattle.std.proofs.Common.{◌≤◌, length}
use Rattle.ifs_play.specs.Shortening.{IsShortened}
use Rattle.ifs_play.proofs.shortening.shortened.Given as goal

abbrev pub invariant-loop-place : goal.invariant-loop-place
invariant-loop-place g l = record {
  within : l.place ≤ length l.kept.moves.items;
  shows : g.R.Replay.shows l.goal l.kept.moves.items l.kept.found;
  shorter : IsShortened l.fn.shown.moves.items l.kept.moves.items;
}

abbrev pub decreases-loop-place : goal.decreases-loop-place
decreases-loop-place g l = l.place
