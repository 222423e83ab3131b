-- The entries are those of the tests so far.
use Rattle.std.proofs.Common.{◌≤◌, length, take}
use Rattle.ifs_sched.specs.Idle.{AreIdle}
use Rattle.ifs_sched.proofs.order.put_all.Given as goal

abbrev pub invariant-loop-index : goal.invariant-loop-index
invariant-loop-index l = AreIdle (take l.index l.tests) l.entries.items × (length l.entries.items ≤ l.index)
