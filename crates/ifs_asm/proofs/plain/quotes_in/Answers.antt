use Rattle.std.proofs.Common.{not, arith}
use Rattle.std.specs.Prelude.{◌==◌}
use Rattle.std.proofs.lemmas.Simd.{zip2_splat, zip2_of_maps}
use Rattle.ifs_asm.specs.inner.Words.{goes_on}
use Rattle.ifs_asm.proofs.Blocks.{marks_are, one_of_two}
use Rattle.ifs_asm.proofs.plain.quotes_in.Goals as goal

pub returns : goal.returns
returns g c =
    let v = c.args.block.now in
    let long = c.told-block in
    marks_are (λ byte. not (goes_on byte)) v _ _ (omega (arith, long, c.requires)) (zip2_of_maps _ _ _ v (zip2_splat _ v g.row.N 34 long) (zip2_splat _ v g.row.N 92 long)) (λ byte. one_of_two (byte == 34) (byte == 92))
