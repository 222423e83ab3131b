use Rattle.std.proofs.Common.{string_bytes}
use Rattle.ifs_image.proofs.Puts.{bytes_more, facts_more, facts_all}
use Rattle.ifs_asm.proofs.tables.put_each.Goals as goal

pub loop-entry-preserved : goal.loop-entry-preserved
loop-entry-preserved g c = record {
  bytes = bytes_more (g.P.Table.text c.args.table.now) c.args.entries.now c.loop-entry.entry-index c.entry-item.result (string_bytes c.args.out.now) (string_bytes c.loop-entry.out) (string_bytes c.put.new.out) c.loop-entry-test.true c.entry-item.is c.loop-entry.invariant.bytes c.in_ok-put.ensures.bytes;
  in_range = facts_more g.P.Table.InRange c.args.entries.now c.loop-entry.entry-index c.entry-item.result c.loop-entry-test.true c.entry-item.is c.loop-entry.invariant.in_range c.in_ok-put.ensures.in_range;
}

pub returns-clause-in_range : goal.returns-clause-in_range
returns-clause-in_range g c = facts_all g.P.Table.InRange c.args.entries.now c.loop-entry.entry-index c.loop-entry-test.false c.loop-entry.invariant.in_range
