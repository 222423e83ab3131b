-- The parts of the names so far.
use Rattle.std.proofs.Common.{◌≡◌, map, take}
use Rattle.ifs_compare.specs.Renumbering.{part_named}
use Rattle.ifs_compare.proofs.renumbering.renumber_states.Given as goal

abbrev pub invariant-loop-index : goal.invariant-loop-index
invariant-loop-index l = l.made.items ≡ map (part_named l.policy l.numbering.from.now l.numbering.to.now) (take l.index l.numbering.to.now.states)
