use Rattle.std.proofs.Common.{[]}
use Rattle.std.proofs.lemmas.Result.{err_from_is_err_and}
use Rattle.ifs_image.specs.Reading.{items_at, name_at}
use Rattle.ifs_image.proofs.Loops.{stops}
use Rattle.ifs_image.proofs.reading.interfaces_of.Goals as goal

pub returns-in_err-name : goal.returns-in_err-name
returns-in_err-name c =
    let p = err_from_is_err_and c.from_residual.result c.from_residual.ensures.1 in
    rw (p.1, p.2) (stops name_at c.args.count c.entries.counter c.entries.interfaces.items c.entries.reader (items_at name_at c.args.count [] c.args.reader.now) c.in_err-name.field-0.0 c.entries-test.true (rw c.as_slice.ensures.value at c.in_err-name.ensures) c.entries.invariant)
