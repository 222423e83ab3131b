-- Other tokens do not change what a place is.
use Rattle.std.proofs.Common.{refl}
use Rattle.ifs_lint.proofs.Marking.{set_kept}
use Rattle.ifs_lint.proofs.marks.set.Goals as goal

pub returns-in-Some : goal.returns-in-Some
returns-in-Some c = set_kept c.args.marks.now.items c.args.place _ c.in-Some.mark.now refl c.in-Some.ensures.item.1
