-- One more index.
use Rattle.std.proofs.Common.{arith}
use Rattle.ifs_policy.specs.Meaning.{mentioned}
use Rattle.ifs_gen.proofs.Marking.{below_next, mark_is}
use Rattle.ifs_gen.proofs.mention.tests_of.Goals as goal

pub loop-index-preserved : goal.loop-index-preserved
loop-index-preserved c =
    below_next (mentioned c.args.body.now) c.loop-index.index c.loop-index.tests.items c.put_test.new.tests.items _ c.loop-index.invariant c.in_ok-put_test.ensures
    (mark_is 64 c.loop-index.index c.marks_of-marks.result (mentioned c.args.body.now) (omega arith) c.marks_of-marks.ensures)
