-- The tests so far are copied.
use Rattle.std.proofs.Common.{◌≡◌, map, take}
use Rattle.ifs_gen.specs.PolicyImage.{test_spec}
use Rattle.ifs_gen.proofs.generating.specs_of.Given as goal

abbrev pub invariant-loop-index : goal.invariant-loop-index
invariant-loop-index l = l.specs.items ≡ map test_spec (take l.index l.table)
