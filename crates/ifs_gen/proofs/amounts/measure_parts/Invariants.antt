-- The parts so far are measured.
use Rattle.std.proofs.Common.{◌≡◌, ◌++◌, map, take}
use Rattle.ifs_gen.specs.inner.Amounts.{measured}
use Rattle.ifs_gen.proofs.amounts.measure_parts.Given as goal

abbrev pub invariant-loop-part : goal.invariant-loop-part
invariant-loop-part l = l.measures.items ≡ l.initial.measures.items ++ map (measured l.count) (take l.part-index l.parts)
