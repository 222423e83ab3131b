use Rattle.std.proofs.Common.{◌≡◌, map, take}
use Rattle.ifs_core.proofs.event.periods_of.Given as goal

abbrev pub invariant-loop-test : goal.invariant-loop-test
invariant-loop-test l = l.periods.items ≡ map (λ t. t.period) (take l.test l.image.tests)
