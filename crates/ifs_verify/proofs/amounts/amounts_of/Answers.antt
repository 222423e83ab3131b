use Rattle.std.proofs.Common.{◌-◌, ◌+◌, slice_index, arith}
use Rattle.ifs_verify.specs.Bounds.{cost_of, commands_of}
use Rattle.ifs_verify.specs.declared.amounts.Weight.TheVariants.{Cost, Commands}
use Rattle.ifs_verify.specs.inner.Passes.{IsCountedFrom}
use Rattle.ifs_verify.proofs.Existing.{amount_found}
use Rattle.ifs_verify.proofs.amounts.amounts_of.Goals as goal

pub count_at-requires-clause-counted : goal.count_at-requires-clause-counted
count_at-requires-clause-counted c = c.loop-done.invariant.costs (c.len-count.result - 1 - c.loop-done.done + 1) (omega (arith, c.loop-done-test.true))

pub count_at-requires-in-loop-done-clause-counted : goal.count_at-requires-in-loop-done-clause-counted
count_at-requires-in-loop-done-clause-counted c =
    c.loop-done.invariant.commands (c.len-count.result - 1 - c.loop-done.done + 1) (omega (arith, c.loop-done-test.true))

pub first-requires : goal.first-requires
first-requires c =
    let counted : IsCountedFrom cost_of c.args.image.now (slice_index c.args.costs.now) c.args.routine c.loop-done.by_place.costs.items 0 =
    c.loop-done.invariant.costs 0 (omega (arith, c.loop-done-test.false, c.loop-done.auto)) in
    omega (arith, counted.room.long c.args.routine)

pub first-requires-2 : goal.first-requires-2
first-requires-2 c =
    let counted : IsCountedFrom commands_of c.args.image.now (slice_index c.args.commands.now) c.args.routine c.loop-done.by_place.commands.items 0 =
    c.loop-done.invariant.commands 0 (omega (arith, c.loop-done-test.false, c.loop-done.auto)) in
    omega (arith, counted.room.long c.args.routine)

pub returns-clause-cost : goal.returns-clause-cost
returns-clause-cost c =
    amount_found Cost c.args.image.now c.args.costs.now c.loop-done.by_place.costs.items c.args.routine c.first.result c.requires.plain c.requires.costs c.requires.routine
    (c.loop-done.invariant.costs 0 (omega (arith, c.loop-done-test.false, c.loop-done.auto))) c.first.ensures

pub returns-clause-commands : goal.returns-clause-commands
returns-clause-commands c =
    amount_found Commands c.args.image.now c.args.commands.now c.loop-done.by_place.commands.items c.args.routine c.first-2.result c.requires.plain c.requires.commands c.requires.routine
    (c.loop-done.invariant.commands 0 (omega (arith, c.loop-done-test.false, c.loop-done.auto))) c.first-2.ensures

pub returns-clause-room : goal.returns-clause-room
returns-clause-room c =
    let costs : IsCountedFrom cost_of c.args.image.now (slice_index c.args.costs.now) c.args.routine c.loop-done.by_place.costs.items 0 =
    c.loop-done.invariant.costs 0 (omega (arith, c.loop-done-test.false, c.loop-done.auto)) in
    let commands : IsCountedFrom commands_of c.args.image.now (slice_index c.args.commands.now) c.args.routine c.loop-done.by_place.commands.items 0 =
    c.loop-done.invariant.commands 0 (omega (arith, c.loop-done-test.false, c.loop-done.auto)) in
    (costs.room, commands.room)
