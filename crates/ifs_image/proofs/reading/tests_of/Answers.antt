use Rattle.std.proofs.Common.{[]}
use Rattle.std.proofs.lemmas.Result.{err_from_is_err_and}
use Rattle.ifs_image.specs.Reading.{items_at, test_at}
use Rattle.ifs_image.proofs.Loops.{stops}
use Rattle.ifs_image.proofs.reading.tests_of.Goals as goal

pub returns-in_err-test : goal.returns-in_err-test
returns-in_err-test c =
    let p = err_from_is_err_and c.from_residual.result c.from_residual.ensures.1 in
    rw (p.1, p.2) (stops (λ _. test_at) c.args.count c.entries.counter c.entries.tests.items c.entries.reader (items_at (λ _. test_at) c.args.count [] c.args.reader.now) c.in_err-test.field-0.0 c.entries-test.true c.in_err-test.ensures c.entries.invariant)
