use Rattle.std.proofs.Common.{ltb, arith}
use Rattle.std.proofs.lemmas.Bool.{OnTrue_from, ltb-true}
use Rattle.ifs_verify.specs.Refused.{LeavesMany}
use Rattle.ifs_verify.proofs.typing.leaves_many.Goals as goal

pub returns-clause-many : goal.returns-clause-many
returns-clause-many c = OnTrue_from (ltb c.from.result c.len.result) (LeavesMany c.args.here.now.image.now c.args.here.now.routine c.args.here.now.place) (λ yes.
    let over = ltb-true c.from.result c.len.result yes in
    (c.args.here.now.op, c.args.after.now, c.requires, omega (arith, over)))
