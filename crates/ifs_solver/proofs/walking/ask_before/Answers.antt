-- One more body.
use Rattle.std.proofs.Common.{◌∙◌}
use Rattle.ifs_solver.proofs.Lasting.{last_more}
use Rattle.ifs_solver.proofs.walking.ask_before.Goals as goal

pub loop-part-preserved : goal.loop-part-preserved
loop-part-preserved c = record {
  same = c.in_ok-extent.ensures.stays ∙ c.loop-part.invariant.same;
  so_far =
      last_more c.args.scope c.args.constraints.now.items c.loop-part.constraints.items c.args.states.now c.loop-part.part-index c.part-item.result c.loop-part.extent c.in_ok-extent.extent c.loop-part-test.true c.part-item.is
      c.loop-part.invariant.same c.loop-part.invariant.so_far c.in_ok-extent.ensures.next;
  paid = c.in_ok-extent.ensures.paid c.args.budget.now c.loop-part.invariant.paid;
}
