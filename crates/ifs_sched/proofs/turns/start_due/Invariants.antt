-- The tests up to a place have had their turn, and the mask has the later due ones.
use Rattle.ifs_sched.specs.Schedule.{run_as_number}
use Rattle.ifs_sched.proofs.Ticking.{IsTickedSoFar}
use Rattle.ifs_sched.proofs.turns.start_due.Given as goal

abbrev pub invariant-loop-left : goal.invariant-loop-left
invariant-loop-left l =
    IsTickedSoFar l.now (run_as_number l.fn.next_run) l.fn.tests l.left l.tests l.starts.items l.exhausted (run_as_number l.next_run)

-- Each turn takes a test out of the mask.
abbrev pub decreases-loop-left : goal.decreases-loop-left
decreases-loop-left l = l.left
