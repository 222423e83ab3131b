-- One more text.
use Rattle.std.proofs.Common.{rules}
use Rattle.ifs_gen.proofs.Copying.{copied}
use Rattle.ifs_gen.proofs.generating.texts_of.Goals as goal

pub loop-index-preserved : goal.loop-index-preserved
loop-index-preserved c =
    copied c.args.table.now c.loop-index.texts.items c.push.new.self.items c.loop-index.index c.in-Some.text.now c.loop-index.invariant (search rules) (search rules)
