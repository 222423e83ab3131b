-- The measures so far are those of the statements so far.
use Rattle.std.proofs.Common.{◌≡◌, take}
use Rattle.ifs_parse.specs.Views.{block_of}
use Rattle.ifs_gen.specs.PlainCode.{plain_coder, code_size, block_height, block_runs}
use Rattle.ifs_gen.specs.inner.Measures.{capped}
use Rattle.ifs_gen.proofs.measure.+measure_block.Given as goal

abbrev pub invariant-measure_block-loop-statement : goal.invariant-measure_block-loop-statement
invariant-measure_block-loop-statement l =
    let so_far = block_of (take l.statement-index l.statement-items) in
    record {
      size : l.measure.size ≡ capped (code_size plain_coder so_far);
      height : l.measure.height ≡ capped (block_height plain_coder so_far);
      runs : l.measure.runs ≡ capped (block_runs so_far);
    }
