-- The tests up to the index have entered, and the others are unchanged.
use Rattle.std.proofs.Common.{◌≡◌}
use Rattle.ifs_sched.specs.Schedule.{entered_test}
use Rattle.ifs_sched.proofs.ByIndex.{changed_below}
use Rattle.ifs_sched.proofs.turns.enter_all.Given as goal

abbrev pub invariant-loop-index : goal.invariant-loop-index
invariant-loop-index l = l.tests ≡ changed_below (entered_test l.always l.own l.now) l.index l.fn.tests
