use Rattle.std.proofs.Common.{◌++◌, ◌∷◌, []}
use Rattle.ifs_session.proofs.LineReading.{is_full, has_room, partway_start, partway_push, partway_drop, line_fails}
use Rattle.ifs_session.proofs.LineReading.{no_line, last_line, ended_line, too_much}
use Rattle.ifs_session.proofs.lines.next_line.Goals as goal

pub loop-next-init : goal.loop-next-init
loop-next-init g c = ([], partway_start _ _ c.new-kept.ensures)

pub returns-in_default : goal.returns-in_default
returns-in_default g c =
    let (text, so_far) = c.loop-next.invariant in
    (text, line_fails _ _ so_far c.in_default.ensures.gives.0 c.in_default.ensures.gives.1)

pub returns-then-is_empty : goal.returns-then-is_empty
returns-then-is_empty g c = no_line _ _ c.loop-next.invariant.1 c.if-is_empty.ensures (rw c.in_default-next.is at c.in-Ok.ensures).gives

pub returns-in_default-next : goal.returns-in_default-next
returns-in_default-next g c = (c.loop-next.invariant.0, last_line _ _ c.loop-next.invariant.1 c.if-is_empty.ensures (rw c.in_default-next.is at c.in-Ok.ensures).gives)

pub returns-then-budget-eq0 : goal.returns-then-budget-eq0
returns-then-budget-eq0 g c =
    let given = (rw c.in-Some.is at c.in-Ok.ensures).gives in
    (c.loop-next.invariant.0, c.in-Some.byte, too_much _ _ _ c.loop-next.invariant.1 c.if-budget-eq0.true given.0 given.1)

pub returns-then-byte-eq10 : goal.returns-then-byte-eq10
returns-then-byte-eq10 g c =
    let given = (rw c.in-Some.is at c.in-Ok.ensures).gives in
    (c.loop-next.invariant.0, ended_line c.in-Some.byte _ _ c.loop-next.invariant.1 c.if-byte-eq10.true c.if-budget-eq0.false given.0 given.1)

pub loop-next-preserved-then-is_full : goal.loop-next-preserved-then-is_full
loop-next-preserved-then-is_full g c =
    let given = (rw c.in-Some.is at c.in-Ok.ensures).gives in
    (c.loop-next.invariant.0 ++ c.in-Some.byte ∷ [], partway_drop c.in-Some.byte _ _ c.loop-next.invariant.1 c.if-byte-eq10.false c.if-budget-eq0.false given.0 given.1 (is_full _ c.if-is_full.ensures.value))

pub loop-next-preserved : goal.loop-next-preserved
loop-next-preserved g c =
    let given = (rw c.in-Some.is at c.in-Ok.ensures).gives in (
      c.loop-next.invariant.0 ++ c.in-Some.byte ∷ [],
      rw c.push.ensures.items (partway_push c.in-Some.byte _ _ c.loop-next.invariant.1 c.if-byte-eq10.false c.if-budget-eq0.false given.0 given.1 (has_room _ c.if-is_full.ensures.value c.if-is_full.ensures.fits)),
    )
