-- What waits now has waited from the start.
use Rattle.std.proofs.Common.{◌≡◌, true}
use Rattle.ifs_base.specs.declared.ids.CommandId.{CommandId}
use Rattle.ifs_claims.specs.Claims.{queues}
use Rattle.ifs_prove.proofs.making.has_queued.Given as goal

abbrev pub invariant-loop : goal.invariant-loop
invariant-loop l = (command : CommandId) → queues command l.core.state.queue ≡ true → queues command l.fn.core.state.queue ≡ true
