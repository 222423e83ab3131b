use Rattle.ifs_image.specs.Spelling.{routine_bytes}
use Rattle.ifs_image.specs.Limits.{RoutineInRange}
use Rattle.ifs_image.proofs.Puts.{bytes_more, facts_more, facts_all}
use Rattle.ifs_image.proofs.writing.put_routines.Goals as goal

pub loop-routine-preserved : goal.loop-routine-preserved
loop-routine-preserved c = record {
  bytes = bytes_more (routine_bytes c.args.version) c.args.routines.now c.loop-routine.routine-index c.routine-item.result c.args.out.now.items c.loop-routine.out.items c.put_routine.new.out.items c.loop-routine-test.true c.routine-item.is c.loop-routine.invariant.bytes c.in_ok-put_routine.ensures.bytes;
  in_range = facts_more RoutineInRange c.args.routines.now c.loop-routine.routine-index c.routine-item.result c.loop-routine-test.true c.routine-item.is c.loop-routine.invariant.in_range c.in_ok-put_routine.ensures.in_range;
}

pub returns-clause-in_range : goal.returns-clause-in_range
returns-clause-in_range c = facts_all RoutineInRange c.args.routines.now c.loop-routine.routine-index c.loop-routine-test.false c.loop-routine.invariant.in_range
