-- The routines so far are appended.
use Rattle.std.proofs.Common.{◌≡◌, ◌++◌, map, take}
use Rattle.ifs_gen.specs.PolicyImage.{shared_routine}
use Rattle.ifs_gen.proofs.generating.put_shared.Given as goal

abbrev pub invariant-loop-index : goal.invariant-loop-index
invariant-loop-index l = l.routines.items ≡ l.initial.routines.items ++ map shared_routine (take l.index l.shared)
