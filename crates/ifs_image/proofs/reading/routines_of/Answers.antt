use Rattle.std.proofs.Common.{◌≡◌, [], ap, length, arith}
use Rattle.std.proofs.lemmas.Result.{err_from_is_err_and}
use Rattle.ifs_image.specs.declared.parts.Routine.{Routine}
use Rattle.ifs_image.specs.Reading.{items_at, routine_after}
use Rattle.ifs_image.proofs.Loops.{goes_on, stops, is_done, room_less}
use Rattle.ifs_image.proofs.reading.routines_of.Goals as goal

pub returns-in_err-routine : goal.returns-in_err-routine
returns-in_err-routine c =
    let p = err_from_is_err_and c.from_residual.result c.from_residual.ensures.1 in
    rw (p.1, p.2) (stops (routine_after c.args.version) c.args.count c.entries.counter c.entries.routines.items c.entries.reader (items_at (routine_after c.args.version) c.args.count [] c.args.reader.now) c.in_err-routine.field-0.0 c.entries-test.true (rw c.entries.invariant.room at c.in_err-routine.ensures.given) c.entries.invariant.so_far)

pub entries-preserved : goal.entries-preserved
entries-preserved c =
    let len : c.len.result ≡ length c.in_ok-routine.routine.code = omega (arith, c.len.ensures, ap (λ (r : Routine). length r.code) c.routine.view_is) in
    record {
      room = room_less c.args.version c.entries.routines.items c.in_ok-routine.routine c.push.new.self.items c.entries.room c.len.result c.entries.invariant.room len c.in_ok-push.ensures.items;
      so_far = goes_on (routine_after c.args.version) c.args.count c.entries.counter c.entries.routines.items c.push.new.self.items c.entries.reader c.routine_of.new.reader c.in_ok-routine.routine (items_at (routine_after c.args.version) c.args.count [] c.args.reader.now) c.entries-test.true (rw c.entries.invariant.room at c.in_ok-routine.ensures.given) c.in_ok-push.ensures.items c.entries.invariant.so_far;
    }

pub returns : goal.returns
returns c = is_done (routine_after c.args.version) c.args.count c.entries.counter c.entries.routines.items c.new.result c.entries.reader (items_at (routine_after c.args.version) c.args.count [] c.args.reader.now) c.entries-test.false c.new.ensures c.entries.invariant.so_far
