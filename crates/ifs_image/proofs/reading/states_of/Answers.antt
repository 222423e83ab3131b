use Rattle.std.proofs.Common.{[]}
use Rattle.std.proofs.lemmas.Result.{err_from_is_err_and}
use Rattle.ifs_image.specs.Reading.{items_at, state_at}
use Rattle.ifs_image.proofs.Loops.{stops}
use Rattle.ifs_image.proofs.reading.states_of.Goals as goal

pub returns-in_err-state : goal.returns-in_err-state
returns-in_err-state c =
    let p = err_from_is_err_and c.from_residual.result c.from_residual.ensures.1 in
    rw (p.1, p.2) (stops state_at c.args.count c.entries.counter c.entries.states.items c.entries.reader (items_at state_at c.args.count [] c.args.reader.now) c.in_err-state.field-0.0 c.entries-test.true (rw c.as_slice.ensures.value at c.in_err-state.ensures) c.entries.invariant)
