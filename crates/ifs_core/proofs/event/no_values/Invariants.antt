use Rattle.std.proofs.Common.{◌≡◌, None, map, take}
use Rattle.ifs_core.proofs.event.no_values.Given as goal

abbrev pub invariant-loop-test : goal.invariant-loop-test
invariant-loop-test l = l.values.items ≡ map (λ _. None) (map (λ t. t.period) (take l._test l.image.tests))
