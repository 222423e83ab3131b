use Rattle.std.proofs.Common.{arith}
use Rattle.ifs_verify.proofs.Assembly.{stack_over}
use Rattle.ifs_verify.proofs.bounds.height_found.Goals as goal

pub returns-clause-over : goal.returns-clause-over
returns-clause-over c = λ over.
    stack_over c.args.image.now c.args.heights.now.items c.args.routine c.requires.heights c.requires.routine (omega (arith, c.entry.ensures, over))
