-- Where it is not held back.
use Rattle.std.proofs.Common.{sym, subst}
use Rattle.ifs_solver.specs.Places.{block_places}
use Rattle.ifs_solver.specs.inner.Walking.{Walked, others_of}
use Rattle.ifs_solver.proofs.Blocks.{free_walked}
use Rattle.ifs_solver.proofs.walking.Walk.body.Goals as goal

pub returns : goal.returns
returns c =
    free_walked c.args.body c.args.self.now c.go_to.new.self c.statements-2.new.self c.go_back.new.self c.in_ok-go_to.ensures
    (subst (λ x. Walked (λ here later. block_places here later (others_of c.go_to.new.self.others) x) c.go_to.new.self c.statements-2.new.self) (sym c.statements.ensures.value) c.in_ok-statements.ensures)
    c.go_back.ensures
