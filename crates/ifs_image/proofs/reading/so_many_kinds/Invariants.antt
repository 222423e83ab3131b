use Rattle.std.proofs.Common.{◌≡◌, ◌-◌, [], length}
use Rattle.ifs_image.specs.Reading.{items_at, kind_at}
use Rattle.ifs_image.proofs.reading.so_many_kinds.Given as goal

abbrev pub invariant-entries : goal.invariant-entries
invariant-entries l = record {
  so_many : length l.kinds.items ≡ l.counter;
  so_far : items_at (λ _. kind_at) (l.count - l.counter) l.kinds.items l.reader ≡ items_at (λ _. kind_at) l.count [] l.fn.reader;
}
