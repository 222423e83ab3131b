use Rattle.std.specs.Prelude.{IsUtf8}
use Rattle.ifs_image.specs.Spelling.{text_bytes}
use Rattle.ifs_image.proofs.Puts.{bytes_more, facts_more, facts_all}
use Rattle.ifs_image.proofs.writing.put_texts.Goals as goal

pub loop-text-preserved : goal.loop-text-preserved
loop-text-preserved c = record {
  bytes = bytes_more text_bytes c.args.texts.now c.loop-text.text-index c.text-item.result c.args.out.now.items c.loop-text.out.items c.put_text.new.out.items c.loop-text-test.true c.text-item.is c.loop-text.invariant.bytes c.in_ok-put_text.ensures.bytes;
  in_range = facts_more IsUtf8 c.args.texts.now c.loop-text.text-index c.text-item.result c.loop-text-test.true c.text-item.is c.loop-text.invariant.in_range c.in_ok-put_text.ensures.in_range;
}

pub returns-clause-in_range : goal.returns-clause-in_range
returns-clause-in_range c = facts_all IsUtf8 c.args.texts.now c.loop-text.text-index c.loop-text-test.false c.loop-text.invariant.in_range
