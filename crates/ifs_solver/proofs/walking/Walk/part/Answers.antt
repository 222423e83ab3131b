-- The init, and then the body.
use Rattle.std.proofs.Common.{sym, subst}
use Rattle.ifs_solver.specs.Places.{block_places}
use Rattle.ifs_solver.specs.inner.Walking.{Walked, others_of}
use Rattle.ifs_solver.proofs.Blocks.{part_walked}
use Rattle.ifs_solver.proofs.walking.Walk.part.Goals as goal

pub returns : goal.returns
returns c =
    part_walked c.args.part.now c.args.self.now c.statements-2.new.self c.body.new.self
    (subst (λ x. Walked (λ here later. block_places here later (others_of c.args.self.now.others) x) c.args.self.now c.statements-2.new.self) (sym c.statements.ensures.value) c.in_ok-statements.ensures)
    c.in_ok-body.ensures
