use Rattle.std.specs.Prelude.{IsUtf8}
use Rattle.ifs_image.specs.Spelling.{test_bytes}
use Rattle.ifs_image.proofs.Puts.{bytes_more, facts_more, facts_all}
use Rattle.ifs_image.proofs.writing.put_tests.Goals as goal

pub loop-test-preserved : goal.loop-test-preserved
loop-test-preserved c = record {
  bytes = bytes_more test_bytes c.args.tests.now c.loop-test.test-index c.test-item.result c.args.out.now.items c.loop-test.out.items c.put_test.new.out.items c.loop-test-test.true c.test-item.is c.loop-test.invariant.bytes c.in_ok-put_test.ensures.bytes;
  in_range = facts_more (λ t. IsUtf8 t.text) c.args.tests.now c.loop-test.test-index c.test-item.result c.loop-test-test.true c.test-item.is c.loop-test.invariant.in_range c.in_ok-put_test.ensures.in_range;
}

pub returns-clause-in_range : goal.returns-clause-in_range
returns-clause-in_range c = facts_all (λ t. IsUtf8 t.text) c.args.tests.now c.loop-test.test-index c.loop-test-test.false c.loop-test.invariant.in_range
