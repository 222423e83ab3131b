-- The mask has the tests of the entries so far.
use Rattle.std.proofs.Common.{◌≡◌, ◌<◌, ◌==◌, ℕ, take}
use Rattle.std.specs.List.{list_any}
use Rattle.ifs_sched.specs.Schedule.{has_test}
use Rattle.ifs_sched.proofs.order.set_of.Given as goal

abbrev pub invariant-loop-test : goal.invariant-loop-test
invariant-loop-test l =
    (test : ℕ) → test < 64 → has_test l.mask test ≡ list_any (λ entry. entry.1.0 == test) (take l.test-index l.entries)
