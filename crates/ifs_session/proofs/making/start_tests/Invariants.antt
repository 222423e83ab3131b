use Rattle.std.proofs.Common.{Option, map, drop}
use Rattle.ifs_session.specs.Hosts.{HostLog, Adds, launched}
use Rattle.ifs_session.specs.Accounts.{launch_of}
use Rattle.ifs_session.proofs.making.start_tests.Given as goal

abbrev pub invariant-loop-start : goal.invariant-loop-start
invariant-loop-start g l = (end : Option HostLog) → Adds (launched (map (launch_of l.fn.core.image) (drop l.start-index l.starts))) (g.H.Host.told l.host) end
    → Adds (launched (map (launch_of l.fn.core.image) l.starts)) (g.H.Host.told l.fn.host) end
