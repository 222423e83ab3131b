-- There is no test of that index, it does not run under that number, or its run ends and it has an entry.
use Rattle.std.proofs.Common.{◌<◌, ◌≤◌, length, sym, ◌∙◌, arith, refl}
use Rattle.ifs_sched.proofs.Finishing.{ended_past, ended_read, runs_under-read}
use Rattle.ifs_sched.proofs.Waiting.{finished_entries, finished_other, finished_room}
use Rattle.ifs_sched.proofs.timers.Timers.finish.Goals as goal

pub returns-in_default-clause-after : goal.returns-in_default-clause-after
returns-in_default-clause-after c =
    let past : length c.self.inside.tests.items ≤ c.args.test.0 = search (arith, c.in_default.ensures.variant) in
    rw (← c.self.view_is, ended_past c.self.inside.tests.items c.args.test.0 c.args.run past) refl

pub returns-in_default-finish-clause-value : goal.returns-in_default-finish-clause-value
returns-in_default-finish-clause-value c =
    let x = c.in-Some.timer.now in
    let here = rw c.from.ensures at c.in-Some.ensures.value in
    let within : c.args.test.0 < length c.self.inside.tests.items = rw c.from.ensures at (c.in-Some.ensures.variant.0 refl) in
    rw (← c.self.view_is)
    (c.in_default-finish.ensures.value ∙ sym (runs_under-read c.self.inside.tests.items c.args.test.0 c.args.run x within here))

pub returns-in_default-finish-clause-after : goal.returns-in_default-finish-clause-after
returns-in_default-finish-clause-after c =
    let x = c.in-Some.timer.now in
    let here = rw c.from.ensures at c.in-Some.ensures.value in
    let within : c.args.test.0 < length c.self.inside.tests.items = rw c.from.ensures at (c.in-Some.ensures.variant.0 refl) in
    rw (← c.self.view_is, ended_read c.self.inside.tests.items c.args.test.0 c.args.run x within here, c.from.ensures, c.finish.ensures.after) refl

pub put-requires-clause-room : goal.put-requires-clause-room
put-requires-clause-room c =
    let here = rw c.from.ensures at c.in-Some.ensures.value in
    let within : c.args.test.0 < length c.self.inside.tests.items = rw c.from.ensures at (c.in-Some.ensures.variant.0 refl) in
    finished_room c.self.inside.tests.items c.self.inside.idle.items c.args.test.0 c.args.run c.in-Some.timer.now c.self.invariant.0 c.self.invariant.1 within here c.in-Some-finish.ensures.value

pub put-requires-clause-other : goal.put-requires-clause-other
put-requires-clause-other c =
    let here = rw c.from.ensures at c.in-Some.ensures.value in
    let within : c.args.test.0 < length c.self.inside.tests.items = rw c.from.ensures at (c.in-Some.ensures.variant.0 refl) in
    finished_other c.self.inside.tests.items c.self.inside.idle.items c.args.test.0 c.args.run c.in-Some.timer.now c.self.invariant.0 c.self.invariant.1 within here c.in-Some-finish.ensures.value

pub invariant_of-self-2 : goal.invariant_of-self-2
invariant_of-self-2 c =
    let here = rw c.from.ensures at c.in-Some.ensures.value in
    let within : c.args.test.0 < length c.self.inside.tests.items = rw c.from.ensures at (c.in-Some.ensures.variant.0 refl) in
    rw (c.from.ensures)
    (finished_entries c.self.inside.tests.items c.self.inside.idle.items c.args.test.0 c.args.run c.in-Some.timer.now c.self.invariant.0 c.self.invariant.1 within here c.in-Some-finish.ensures.value c.in-Some-finish.due c.finish.new.self c.put.new.entries.items c.in-Some-finish.ensures.due c.put.ensures.ascending c.put.ensures.added)

pub returns-clause-value : goal.returns-clause-value
returns-clause-value c =
    let x = c.in-Some.timer.now in
    let here = rw c.from.ensures at c.in-Some.ensures.value in
    let within : c.args.test.0 < length c.self.inside.tests.items = rw c.from.ensures at (c.in-Some.ensures.variant.0 refl) in
    rw (← c.self.view_is)
    (c.in-Some-finish.ensures.value ∙ sym (runs_under-read c.self.inside.tests.items c.args.test.0 c.args.run x within here))

pub returns-clause-after : goal.returns-clause-after
returns-clause-after c =
    let x = c.in-Some.timer.now in
    let here = rw c.from.ensures at c.in-Some.ensures.value in
    let within : c.args.test.0 < length c.self.inside.tests.items = rw c.from.ensures at (c.in-Some.ensures.variant.0 refl) in
    rw (← c.self.view_is, ended_read c.self.inside.tests.items c.args.test.0 c.args.run x within here, c.from.ensures, c.finish.ensures.after) refl
