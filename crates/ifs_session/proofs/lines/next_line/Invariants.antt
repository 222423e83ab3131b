use Rattle.std.proofs.Common.{ℕ, List}
use Rattle.ifs_session.proofs.LineReading.{Partway}
use Rattle.ifs_session.proofs.lines.next_line.Given as goal

abbrev pub invariant-loop-next : goal.invariant-loop-next
invariant-loop-next g l = (text : List ℕ) × Partway l.kept.items l.is_longer text
    (record { left = g.R.ByteIn.left l.fn.reader; faults = g.R.ByteIn.faults l.fn.reader; budget = l.fn.budget })
    (record { left = g.R.ByteIn.left l.reader; faults = g.R.ByteIn.faults l.reader; budget = l.budget })

abbrev pub decreases-loop-next : goal.decreases-loop-next
decreases-loop-next g l = l.budget
