use Rattle.std.proofs.Common.{◌≡◌, ◌+◌, ◌-◌, ◌≤◌, List, length}
use Rattle.ifs_core.specs.Event.{Behaviour}
use Rattle.ifs_core.specs.Machine.{IsBehaviour}
use Rattle.ifs_session.specs.Hosts.{Ending}
use Rattle.ifs_session.specs.Accounts.{runs_ended}
use Rattle.ifs_session.specs.inner.Connections.{Carries}
use Rattle.ifs_session.proofs.service.apply_test_results.Given as goal

abbrev pub invariant-endings : goal.invariant-endings
invariant-endings g l = record {
  image : l.core.image ≡ l.fn.core.image;
  room : length l.steps.items + 65 ≤ 512;
  heard : (b : Behaviour) → IsBehaviour l.fn.core.image b → (endings : List Ending) × Carries (runs_ended b l.fn.core.image endings)
      (record { state = l.fn.core.state; steps = l.fn.steps.items; told = g.H.Host.told l.fn.host })
      (record { state = l.core.state; steps = l.steps.items; told = g.H.Host.told l.host });
}

abbrev pub decreases-endings : goal.decreases-endings
decreases-endings g l = 512 - length l.steps.items
