-- It is among the commands that are left if it is among all.
use Rattle.std.proofs.Common.{◌≡◌, drop}
use Rattle.ifs_claims.specs.Claims.{queues}
use Rattle.ifs_prove.proofs.making.has.Given as goal

abbrev pub invariant-loop-other : goal.invariant-loop-other
invariant-loop-other l = queues l.command (drop l.other-index l.commands) ≡ queues l.command l.commands
