-- All states are looked at.
use Rattle.std.proofs.Common.{arith}
use Rattle.ifs_solver.proofs.Tours.{visited}
use Rattle.ifs_solver.proofs.touring.Tour.visit.Goals as goal

pub returns-clause-visits : goal.returns-clause-visits
returns-clause-visits c = λ policy given start.
    let touring = c.loop-next.invariant.looks policy given start in
    let first = start.is.count in
    let last = touring.is.count in
    visited policy given c.args.state c.loop-next.self c.loop-next.next (omega (arith, first, last, c.loop-next-test.false)) touring
