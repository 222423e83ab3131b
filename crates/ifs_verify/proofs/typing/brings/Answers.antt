use Rattle.std.proofs.Common.{List, Some, arith, sym, subst}
use Rattle.std.proofs.lemmas.Bool.{OnTrue_at}
use Rattle.ifs_base.specs.declared.op.Kind.{Kind}
use Rattle.std.proofs.Math.ListN.{set}
use Rattle.ifs_verify.specs.inner.Passes.{IsLeft}
use Rattle.ifs_verify.proofs.Flow.{left_brought}
use Rattle.ifs_verify.proofs.KindsAt.{kinds_at-set_same}
use Rattle.ifs_verify.proofs.typing.brings.Goals as goal

pub returns-clause-left : goal.returns-clause-left
returns-clause-left c =
    subst (λ (list : List Kind). IsLeft c.args.here.now.image.now c.args.here.now.routine c.args.here.now.place c.args.here.now.op c.args.after.now (set c.args.brought.now.items c.args.to (Some list))) (sym c.copied.ensures)
    (left_brought c.args.here.now.image.now c.args.here.now.routine c.args.here.now.place c.args.to c.args.here.now.op c.args.after.now c.args.brought.now.items
    c.requires.op c.requires.left c.requires.successor c.requires.later c.requires.within (OnTrue_at c.if-not-agrees.false c.agrees.ensures.same))

pub returns-clause-met : goal.returns-clause-met
returns-clause-met c =
    rw c.copied.ensures
    (kinds_at-set_same c.args.brought.now.items c.args.to c.args.after.now (omega (arith, c.requires.within, c.requires.left.ahead.long, c.requires.left.typed.long)))
