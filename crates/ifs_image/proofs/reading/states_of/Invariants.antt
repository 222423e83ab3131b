use Rattle.std.proofs.Common.{◌≡◌, ◌-◌, []}
use Rattle.ifs_image.specs.Reading.{items_at, state_at}
use Rattle.ifs_image.proofs.reading.states_of.Given as goal

abbrev pub invariant-entries : goal.invariant-entries
invariant-entries l = items_at state_at (l.count - l.counter) l.states.items l.reader ≡ items_at state_at l.count [] l.fn.reader
