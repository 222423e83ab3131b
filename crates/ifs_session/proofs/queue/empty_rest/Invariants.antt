use Rattle.std.proofs.Common.{◌≡◌, ◌+◌, ◌≤◌, ◌++◌, Option, length}
use Rattle.ifs_core.specs.Event.{Behaviour}
use Rattle.ifs_core.specs.Steps.{after_steps}
use Rattle.ifs_session.specs.Hosts.{HostLog, Adds, ran}
use Rattle.ifs_session.specs.Accounts.{takes_of, texts_of}
use Rattle.ifs_session.proofs.queue.empty_rest.Given as goal

abbrev pub invariant-commands : goal.invariant-commands
invariant-commands g l = record {
  image : l.core.image ≡ l.fn.core.image;
  room : length l.steps.items + length l.core.state.queue ≤ g.row.N;
  steps : l.steps.items ++ takes_of l.core.state.queue ≡ l.fn.steps.items ++ takes_of l.fn.core.state.queue;
  state : (b : Behaviour) → after_steps b l.fn.core.image.budgets.commands (takes_of l.core.state.queue) l.core.state
      ≡ after_steps b l.fn.core.image.budgets.commands (takes_of l.fn.core.state.queue) l.fn.core.state;
  told : (end : Option HostLog) → Adds (ran (texts_of l.fn.core.image l.core.state.queue)) (g.H.Host.told l.host) end
      → Adds (ran (texts_of l.fn.core.image l.fn.core.state.queue)) (g.H.Host.told l.fn.host) end;
}

abbrev pub decreases-commands : goal.decreases-commands
decreases-commands g l = length l.core.state.queue
