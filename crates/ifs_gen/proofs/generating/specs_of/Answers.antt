-- One more test.
use Rattle.std.proofs.Common.{◌≡◌, [], Some, rules}
use Rattle.std.specs.Prelude.{slice_get}
use Rattle.ifs_gen.specs.PolicyImage.{test_spec}
use Rattle.ifs_gen.proofs.Copying.{mapped_copied}
use Rattle.ifs_gen.proofs.generating.specs_of.Goals as goal

pub loop-index-preserved : goal.loop-index-preserved
loop-index-preserved c =
    let at : slice_get c.args.table.now c.loop-index.index ≡ Some c.in-Some.test.now = search rules in
    mapped_copied test_spec c.args.table.now [] c.loop-index.specs.items c.push.new.self.items c.loop-index.index c.in-Some.test.now c.loop-index.invariant at (search rules)
