-- The parts so far.
use Rattle.std.proofs.Common.{take}
use Rattle.std.specs.List.{flat_map}
use Rattle.ifs_solver.specs.inner.Walking.{Walked, others_of, part_places_at}
use Rattle.ifs_solver.proofs.walking.Walk.parts.Given as goal

abbrev pub invariant-loop-part : goal.invariant-loop-part
invariant-loop-part l = Walked (λ here later. flat_map (part_places_at here later (others_of l.fn.self.others)) (take l.part-index l.parts)) l.fn.self l.self
