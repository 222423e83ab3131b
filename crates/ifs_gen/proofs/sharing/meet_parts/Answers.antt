-- One more part, and all parts.
use Rattle.ifs_gen.proofs.Walking.{parts_met, part_conditions, met_more, part_met}
use Rattle.ifs_gen.proofs.sharing.meet_parts.Goals as goal

pub returns : goal.returns
returns c = parts_met c.args.met.now c.loop-part.met c.args.parts.now c.loop-part.part-index c.loop-part-test.false c.loop-part.invariant

pub loop-part-preserved : goal.loop-part-preserved
loop-part-preserved c =
    met_more part_conditions c.args.met.now c.loop-part.met c.meet_part.new.met c.args.parts.now c.loop-part.part-index c.part-item.result
    c.loop-part-test.true c.part-item.is c.loop-part.invariant (part_met c.loop-part.met c.meet_part.new.met c.part-item.result c.in_ok-meet_part.ensures)
