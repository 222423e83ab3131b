-- One more routine.
use Rattle.std.proofs.Common.{◌≡◌, Some, rules}
use Rattle.std.specs.Prelude.{slice_get}
use Rattle.ifs_gen.specs.PolicyImage.{shared_routine}
use Rattle.ifs_gen.proofs.Copying.{mapped_copied}
use Rattle.ifs_gen.proofs.generating.put_shared.Goals as goal

pub loop-index-preserved : goal.loop-index-preserved
loop-index-preserved c =
    let at : slice_get c.args.shared.now c.loop-index.index ≡ Some c.in-Some.code.now = search rules in
    mapped_copied shared_routine c.args.shared.now c.args.routines.now.items c.loop-index.routines.items c.push.new.self.items c.loop-index.index c.in-Some.code.now c.loop-index.invariant at (search rules)
