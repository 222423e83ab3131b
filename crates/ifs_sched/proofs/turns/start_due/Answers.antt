-- A test that is due starts with the next number, or none is left for it; the mask has the others.
use Rattle.std.proofs.Common.{ap, arith}
use Rattle.ifs_sched.specs.Schedule.{run_as_number}
use Rattle.ifs_sched.specs.Timer.{inactive}
use Rattle.ifs_sched.proofs.Masks.{first_test, taken_is_less}
use Rattle.ifs_sched.proofs.Ticking.{IsTickedBelow-started, IsTickedBelow-left, run_as_number-checked}
use Rattle.ifs_sched.proofs.Ticking.{due_here, index_within, is_ticked, one_more_turn, ticked_all, ticked_so_far-none, ticked_to_index}
use Rattle.ifs_sched.proofs.turns.start_due.Goals as goal

pub loop-left-init : goal.loop-left-init
loop-left-init c = rw c.clear.ensures (ticked_so_far-none c.args.now _ c.args.tests.now c.args.due c.requires.number c.requires.due)

pub bounds-tests-index : goal.bounds-tests-index
bounds-tests-index c =
    let first = first_test c.loop-left.left (omega arith) (omega arith) in
    let within = index_within _ _ _ _ _ _ _ _ c.loop-left.invariant c.requires.room _ first in
    omega (arith, c.loop-left.auto.tests)

pub push-requires : goal.push-requires
push-requires c =
    let first = first_test c.loop-left.left (omega arith) (omega arith) in
    let within = index_within _ _ _ _ _ _ _ _ c.loop-left.invariant c.requires.room _ first in
    let ticked = ticked_to_index _ _ _ _ _ _ _ _ c.loop-left.invariant c.requires.room _ first in
    (omega arith, (let fit = ticked.starts_fit in omega (arith, c.requires.room)))

pub loop-left-smaller-in-Some : goal.loop-left-smaller-in-Some
loop-left-smaller-in-Some c =
    let first = first_test c.loop-left.left (omega arith) (omega arith) in taken_is_less c.loop-left.left _ first.there first.has

pub loop-left-smaller : goal.loop-left-smaller
loop-left-smaller c =
    let first = first_test c.loop-left.left (omega arith) (omega arith) in taken_is_less c.loop-left.left _ first.there first.has

pub loop-left-preserved-in-Some : goal.loop-left-preserved-in-Some
loop-left-preserved-in-Some c =
    let first = first_test c.loop-left.left (omega arith) (omega arith) in
    let so = c.loop-left.invariant in
    let room = c.requires.room in
    let run = c.in-Some.run' in
    let within = index_within _ _ _ _ _ _ _ _ so room _ first in
    let ticked = ticked_to_index _ _ _ _ _ _ _ _ so room _ first in
    let due = due_here _ _ _ _ _ _ _ _ so room _ first (inactive 0) in
    one_more_turn _ _ _ _ _ _ _ _ so room _ first _ _ _ _
    (rw (c.start.ensures, c.push.ensures.items)
    (IsTickedBelow-started _ _ _ _ _ _ _ _ (inactive 0) ticked within run (run_as_number c.checked_add.result) due (ap run_as_number c.in-Some.is) (omega arith) (run_as_number-checked c.checked_add.result run c.checked_add.ensures (omega arith))))

pub loop-left-preserved : goal.loop-left-preserved
loop-left-preserved c =
    let first = first_test c.loop-left.left (omega arith) (omega arith) in
    let so = c.loop-left.invariant in
    let room = c.requires.room in
    let within = index_within _ _ _ _ _ _ _ _ so room _ first in
    let ticked = ticked_to_index _ _ _ _ _ _ _ _ so room _ first in
    let due = due_here _ _ _ _ _ _ _ _ so room _ first (inactive 0) in
    one_more_turn _ _ _ _ _ _ _ _ so room _ first _ _ _ _
    (IsTickedBelow-left _ _ _ _ _ _ _ _ (inactive 0) ticked within due (ap run_as_number c.in-None.is))

pub returns : goal.returns
returns c = is_ticked _ _ _ _ _ _ _ (ticked_all _ _ _ _ _ _ _ _ c.loop-left.invariant c.requires.room c.loop-left-test.false)
