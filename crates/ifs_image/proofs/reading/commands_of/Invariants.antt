use Rattle.std.proofs.Common.{◌≡◌, ◌-◌, []}
use Rattle.ifs_image.specs.Reading.{items_at, text_at}
use Rattle.ifs_image.proofs.reading.commands_of.Given as goal

abbrev pub invariant-entries : goal.invariant-entries
invariant-entries l = items_at (λ _. text_at) (l.count - l.counter) l.commands.items l.reader ≡ items_at (λ _. text_at) l.count [] l.fn.reader
