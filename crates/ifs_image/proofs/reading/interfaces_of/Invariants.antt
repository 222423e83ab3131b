use Rattle.std.proofs.Common.{◌≡◌, ◌-◌, []}
use Rattle.ifs_image.specs.Reading.{items_at, name_at}
use Rattle.ifs_image.proofs.reading.interfaces_of.Given as goal

abbrev pub invariant-entries : goal.invariant-entries
invariant-entries l = items_at name_at (l.count - l.counter) l.interfaces.items l.reader ≡ items_at name_at l.count [] l.fn.reader
