use Rattle.std.proofs.Common.{◌≡◌, ◌+◌, ◌≤◌, List, length}
use Rattle.ifs_core.specs.Event.{Behaviour}
use Rattle.ifs_core.specs.Machine.{IsBehaviour}
use Rattle.ifs_session.specs.Accounts.{Exchange}
use Rattle.ifs_session.proofs.Exchanges.{Ongoing}
use Rattle.ifs_session.proofs.service.serve_lines.Given as goal

abbrev pub invariant-exchanges : goal.invariant-exchanges
invariant-exchanges g l = record {
  image : l.core.image ≡ l.fn.core.image;
  room : length l.steps.items + 65 ≤ 512;
  ongoing : (b : Behaviour) → IsBehaviour l.fn.core.image b → (exchanges : List Exchange) × Ongoing b exchanges (g.H.Host.told l.fn.host)
      (record { core = l.fn.core; left = g.R.ByteIn.left l.fn.reader; written = g.W.ByteOut.written l.fn.writer; read_faults = g.R.ByteIn.faults l.fn.reader; write_faults = g.W.ByteOut.faults l.fn.writer })
      (record {
        moment = record { core = l.core; left = g.R.ByteIn.left l.reader; written = g.W.ByteOut.written l.writer; read_faults = g.R.ByteIn.faults l.reader; write_faults = g.W.ByteOut.faults l.writer };
        budget = l.budget;
        steps = l.steps.items;
        told = g.H.Host.told l.host;
      });
}

abbrev pub decreases-exchanges : goal.decreases-exchanges
decreases-exchanges g l = l.budget
