-- One value of each of the choices so far.
use Rattle.std.proofs.Common.{◌≡◌, map, take}
use Rattle.ifs_compare.specs.inner.Points.{narrowed}
use Rattle.ifs_compare.proofs.points.values_in.Given as goal

abbrev pub invariant-loop-choice : goal.invariant-loop-choice
invariant-loop-choice l = l.values.items ≡ map (narrowed l.first) (take l.choice-index l.choices)
