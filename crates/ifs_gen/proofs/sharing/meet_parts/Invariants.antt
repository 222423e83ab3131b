-- The conditions of the parts so far are noted.
use Rattle.std.proofs.Common.{◌≡◌, take, fold}
use Rattle.std.specs.List.{flat_map}
use Rattle.ifs_gen.specs.inner.Meetings.{meet}
use Rattle.ifs_gen.proofs.Walking.{part_conditions}
use Rattle.ifs_gen.proofs.sharing.meet_parts.Given as goal

abbrev pub invariant-loop-part : goal.invariant-loop-part
invariant-loop-part l = l.met ≡ fold meet l.initial.met (flat_map part_conditions (take l.part-index l.parts))
