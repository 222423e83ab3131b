use Rattle.std.proofs.Common.{slice_index}
use Rattle.ifs_verify.proofs.Holding.{needs_height}
use Rattle.ifs_verify.proofs.typing.pass.Goals as goal

pub returns-clause-needs : goal.returns-clause-needs
returns-clause-needs c =
    needs_height c.args.here.now.image.now c.args.here.now.routine (slice_index c.args.heights.now) c.args.here.now.place c.args.here.now.op c.args.kinds.now c.leave.new.kinds c.args.brought.now.items
    c.len-before.result c.len.result c.height_at-needed.result c.requires.plain c.requires.place c.requires.op c.requires.stands c.in_ok-leave.ensures.yields
    c.len-before.ensures.value c.len.ensures.value c.height_at-needed.ensures.holds c.height_at-needed.ensures.least
