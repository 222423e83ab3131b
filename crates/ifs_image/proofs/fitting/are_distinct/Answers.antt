use Rattle.ifs_image.proofs.Names.{is_refused, found_again, found_first, all_apart}
use Rattle.ifs_image.proofs.fitting.are_distinct.Goals as goal

pub returns-then-is_among : goal.returns-then-is_among
returns-then-is_among c =
    is_refused (found_again c.args.names.now c.loop-i.i c.index-names-i.result c.as_bytes.result.now c.is_among.result c.loop-i-test.true c.index-names-i.is c.as_bytes.ensures c.is_among.ensures c.if-is_among.true)

pub loop-i-preserved : goal.loop-i-preserved
loop-i-preserved c =
    found_first c.args.names.now c.loop-i.i c.index-names-i.result c.as_bytes.result.now c.is_among.result c.loop-i-test.true c.index-names-i.is c.as_bytes.ensures c.is_among.ensures c.if-is_among.false c.loop-i.invariant

pub returns : goal.returns
returns c = all_apart c.args.names.now c.loop-i.i c.loop-i-test.false c.loop-i.invariant
