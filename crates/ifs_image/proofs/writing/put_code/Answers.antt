use Rattle.std.proofs.lemmas.List.{get_or_default}
use Rattle.ifs_base.specs.Spelling.{spelling, HasSpelling}
use Rattle.ifs_image.proofs.Puts.{bytes_more, facts_more}
use Rattle.ifs_image.proofs.writing.put_code.Goals as goal

pub loop-op-preserved : goal.loop-op-preserved
loop-op-preserved c = record {
  bytes = bytes_more spelling c.args.code.now c.loop-op.op-index _ c.args.out.now.items c.loop-op.out.items c.put_op.new.out.items c.loop-op-test.true (get_or_default _ _ _ _ c.loop-op-test.true) c.loop-op.invariant.bytes c.in_ok-put_op.ensures.bytes;
  in_range = facts_more HasSpelling c.args.code.now c.loop-op.op-index _ c.loop-op-test.true (get_or_default _ _ _ _ c.loop-op-test.true) c.loop-op.invariant.in_range c.in_ok-put_op.ensures.in_range;
}
