use Rattle.std.proofs.Common.{◌∙◌}
use Rattle.ifs_asm.proofs.Blocks.{cut_behind}
use Rattle.ifs_asm.proofs.quoting.put_front.Goals as goal

pub returns-in_ok-extend_from_slice-in-Some : goal.returns-in_ok-extend_from_slice-in-Some
returns-in_ok-extend_from_slice-in-Some g c =
    cut_behind g.row.N c.args.run c.len-len.result c.args.bytes.now.items c.in-Some.block.now c.as_slice.result.now c.args.left.now c.extend_from_slice.new.self.items
    c.truncate.new.self.items c.in-Some.ensures.cases.0 c.if-run.true c.as_slice.ensures c.in_ok-extend_from_slice-in-Some.ensures.items (c.len-len.ensures ∙ c.args.bytes.now.ok.0) c.truncate.ensures.items
