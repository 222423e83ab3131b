use Rattle.std.proofs.Common.{◌≡◌, ◌-◌, []}
use Rattle.ifs_image.specs.Reading.{items_at, test_at}
use Rattle.ifs_image.proofs.reading.tests_of.Given as goal

abbrev pub invariant-entries : goal.invariant-entries
invariant-entries l = items_at (λ _. test_at) (l.count - l.counter) l.tests.items l.reader ≡ items_at (λ _. test_at) l.count [] l.fn.reader
