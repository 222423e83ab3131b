-- One more part.
use Rattle.ifs_solver.proofs.Blocks.{parts_more}
use Rattle.ifs_solver.proofs.walking.Walk.parts.Goals as goal

pub loop-part-preserved : goal.loop-part-preserved
loop-part-preserved c =
    parts_more c.args.parts.now c.loop-part.part-index c.part-item.result c.args.self.now c.loop-part.self c.part.new.self c.loop-part-test.true c.part-item.is c.loop-part.invariant c.in_ok-part.ensures
