-- The tests so far are those of the periods so far.
use Rattle.std.proofs.Common.{◌≡◌, map, take}
use Rattle.ifs_sched.specs.Timer.{inactive}
use Rattle.ifs_sched.proofs.timers.Timers.new.Given as goal

abbrev pub invariant-loop-period : goal.invariant-loop-period
invariant-loop-period l = l.tests.items ≡ map inactive (take l.period-index l.periods)
