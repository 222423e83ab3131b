use Rattle.std.proofs.Common.{◌≡◌, ◌++◌, take, All}
use Rattle.std.specs.List.{flat_map}
use Rattle.ifs_image.specs.Spelling.{routine_bytes}
use Rattle.ifs_image.specs.Limits.{RoutineInRange}
use Rattle.ifs_image.proofs.writing.put_routines.Given as goal

abbrev pub invariant-loop-routine : goal.invariant-loop-routine
invariant-loop-routine l = record {
  bytes : l.out.items ≡ l.fn.out.items ++ flat_map (routine_bytes l.version) (take l.routine-index l.routines);
  in_range : All RoutineInRange (take l.routine-index l.routines);
}
