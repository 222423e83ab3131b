use Rattle.std.proofs.Common.{◌≡◌, ◌-◌, []}
use Rattle.ifs_image.specs.Reading.{items_at, routine_after, room_after}
use Rattle.ifs_image.proofs.reading.routines_of.Given as goal

abbrev pub invariant-entries : goal.invariant-entries
invariant-entries l = record {
  room : l.room ≡ room_after l.version l.routines.items;
  so_far : items_at (routine_after l.version) (l.count - l.counter) l.routines.items l.reader ≡ items_at (routine_after l.version) l.count [] l.fn.reader;
}
