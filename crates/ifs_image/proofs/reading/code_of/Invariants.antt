use Rattle.std.proofs.Common.{◌≡◌, ◌-◌, []}
use Rattle.std.specs.Simd.{first_chunks}
use Rattle.ifs_image.specs.Lent.{ops_in}
use Rattle.ifs_image.specs.Reading.{items_at, instruction_at}
use Rattle.ifs_image.proofs.Words.{WordsRead}
use Rattle.ifs_image.proofs.reading.code_of.Given as goal

abbrev pub invariant-entries : goal.invariant-entries
invariant-entries l = record {
  read : WordsRead l.counter l.fn.reader.left l.here;
  so_far : items_at (λ _. instruction_at) (l.count - l.counter) (ops_in (first_chunks 4 l.counter l.fn.reader.left)) l.here ≡ items_at (λ _. instruction_at) l.count [] l.fn.reader;
}
