use Rattle.std.proofs.Common.{[]}
use Rattle.std.proofs.lemmas.Result.{err_from_is_err_and}
use Rattle.ifs_image.specs.Reading.{items_at, text_at}
use Rattle.ifs_image.proofs.Loops.{stops}
use Rattle.ifs_image.proofs.reading.commands_of.Goals as goal

pub returns-in_err-text : goal.returns-in_err-text
returns-in_err-text c =
    let p = err_from_is_err_and c.from_residual.result c.from_residual.ensures.1 in
    rw (p.1, p.2) (stops (λ _. text_at) c.args.count c.entries.counter c.entries.commands.items c.entries.reader (items_at (λ _. text_at) c.args.count [] c.args.reader.now) c.in_err-text.field-0.0 c.entries-test.true c.in_err-text.ensures c.entries.invariant)
