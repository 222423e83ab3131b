use Rattle.std.proofs.Common.{arith}
use Rattle.ifs_asm.specs.Spellings.{is_plain}
use Rattle.ifs_asm.proofs.Blocks.{ends_within, goes_behind}
use Rattle.ifs_asm.proofs.plain.far_plain.Goals as goal

pub returns-then-ends-ne0 : goal.returns-then-ends-ne0
returns-then-ends-ne0 c =
    let cut = c.in-Some.ensures.cases in
    let run = ends_within is_plain 32 c.others_in-ends.result c.loop-block.left.now c.in-Some.block.now c.in-Some.rest.now (omega arith) cut.0 cut.2 c.others_in-ends.ensures c.if-ends-ne0.true in
    record {
      value = omega (arith, c.loop-block.invariant.0, c.loop-block.invariant.1, run.value);
      within = omega (arith, c.loop-block.invariant.1, run.within);
    }

pub loop-block-preserved : goal.loop-block-preserved
loop-block-preserved c =
    let cut = c.in-Some.ensures.cases in
    let on = goes_behind is_plain 32 c.others_in-ends.result c.loop-block.left.now c.in-Some.block.now c.in-Some.rest.now cut.0 cut.1 cut.2 c.others_in-ends.ensures c.if-ends-ne0.false in
    (omega (arith, c.loop-block.invariant.0, on, cut.2), omega (arith, c.loop-block.invariant.1, cut.2))
