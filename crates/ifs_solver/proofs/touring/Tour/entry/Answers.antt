-- A state that is not marked, where all was decided or not.
use Rattle.ifs_solver.proofs.Tours.{entry_paid, never_entered}
use Rattle.ifs_solver.proofs.touring.Tour.entry.Goals.{else-is_unmarked-via-then-is_unmarked+else-is_done, else-is_unmarked-via-else-is_unmarked}
use Rattle.ifs_solver.proofs.touring.Tour.entry.Goals as goal

pub returns-then-is_done-clause-says : goal.returns-then-is_done-clause-says
returns-then-is_done-clause-says c = λ policy given fits toured. never_entered policy given c.args.self.now c.args.state fits toured c.if-is_done.ensures.0 c.if-is_done.ensures.1 c.if-is_unmarked.ensures

pub returns-else-is_unmarked-clause-paid : goal.returns-else-is_unmarked-clause-paid
returns-else-is_unmarked-clause-paid c = λ policy given toured none_pending lt left_open.
    entry_paid policy given c.args.self.now c.args.state toured lt c.if-is_marked.ensures
    (elim c.else-is_unmarked.branch [
      | else-is_unmarked-via-then-is_unmarked+else-is_done w ↦ λ at. w.if-is_done.ensures none_pending
      | else-is_unmarked-via-else-is_unmarked w ↦ λ at. absurd (w.if-is_unmarked.ensures at)
    ])
