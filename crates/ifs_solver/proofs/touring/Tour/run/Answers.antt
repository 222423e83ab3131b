-- A state that was taken is visited, until none is pending.
use Rattle.std.proofs.Common.{refl, sym, ap, ◌∙◌, length, length-append, ◌∷◌, [], arith}
use Rattle.std.proofs.lemmas.List.{append-nil}
use Rattle.ifs_solver.proofs.Blocks.{none_left}
use Rattle.ifs_solver.proofs.Tours.{not_popped, popped}
use Rattle.ifs_solver.proofs.touring.Tour.run.Goals as goal

pub loop-state-preserved : goal.loop-state-preserved
loop-state-preserved c = λ policy given start.
    let toured = c.loop-state.invariant policy given start in
    let paid = toured.is.paid in
    c.in_ok-visit.ensures.visits policy given
    (popped policy given c.in-Some.state c.loop-state.self _ toured (record { spent = paid.spent; undecided = paid.undecided }) refl refl refl refl refl refl c.in-Some.ensures.items)

pub loop-state-smaller : goal.loop-state-smaller
loop-state-smaller c =
    let one_less = ap length c.in-Some.ensures.items ∙ length-append c.pop.new.self.items (c.in-Some.state ∷ []) in
    omega (arith, c.in_ok-visit.ensures.ahead, one_less)

pub returns-clause-runs : goal.returns-clause-runs
returns-clause-runs c = λ policy given start.
    let toured = c.loop-state.invariant policy given start in
    let paid = toured.is.paid in
    not_popped policy given c.loop-state.self _ toured (record { spent = paid.spent; undecided = paid.undecided }) refl refl refl refl refl refl (sym (c.in_default.ensures.items ∙ append-nil c.pop.new.self.items))

pub returns-clause-done : goal.returns-clause-done
returns-clause-done c = none_left c.pop.new.self.items (omega (arith, c.in_default.ensures.cases, c.pop.new.self.ok))
