use Rattle.std.proofs.Common.{ℕ, ◌+◌, ◌≤◌, List}
use Rattle.ifs_core.specs.Event.{Behaviour}
use Rattle.ifs_core.specs.Machine.{IsBehaviour}
use Rattle.ifs_session.proofs.Serving.{Underway}
use Rattle.ifs_session.proofs.session.simulate_into.Given as goal

abbrev pub invariant-lines : goal.invariant-lines
invariant-lines g l = record {
  within : l.summary.requests + l.budget ≤ 16777216;
  fewer : l.summary.steps ≤ l.summary.requests;
  underway : (b : Behaviour) → IsBehaviour l.fn.core.image b → (lines : List (List ℕ)) × Underway b lines l.summary l.budget
      (record { core = l.fn.core; left = g.R.ByteIn.left l.fn.reader; written = g.W.ByteOut.written l.fn.writer; read_faults = g.R.ByteIn.faults l.fn.reader; write_faults = g.W.ByteOut.faults l.fn.writer })
      (record { core = l.core; left = g.R.ByteIn.left l.reader; written = g.W.ByteOut.written l.writer; read_faults = g.R.ByteIn.faults l.reader; write_faults = g.W.ByteOut.faults l.writer });
}

abbrev pub decreases-lines : goal.decreases-lines
decreases-lines g l = l.budget
