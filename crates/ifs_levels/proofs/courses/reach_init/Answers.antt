-- The state is there, or it is not.
use Rattle.std.proofs.Common.{◌≡◌, sym, ◌∙◌, subst, ap, Some, None, arith}
use Rattle.std.proofs.lemmas.Option.{slice_get_past, slice_get-get_or}
use Rattle.std.specs.Prelude.{slice_get}
use Rattle.ifs_solver.specs.FactSets.{fact_set_of}
use Rattle.ifs_solver.specs.Reaching.{effects_of}
use Rattle.ifs_levels.specs.inner.Courses.{IsInitReached}
use Rattle.ifs_levels.proofs.Covering.{no_part, some_part}
use Rattle.ifs_levels.proofs.courses.reach_init.Goals as goal

pub returns-in_default-get : goal.returns-in_default-get
returns-in_default-get c =
    let found = c.in_default-get.ensures.lookup in
    let index = c.from.ensures in
    let past = slice_get_past c.args.states.now c.in-Some.state.0 (omega (arith, found, index)) in
    subst (λ o. IsInitReached c.args.states.now o (fact_set_of c.args.set.now) (effects_of c.args.reached.now) (effects_of c.args.reached.now) None) (sym c.in-Some.is)
    (no_part c.args.states.now (fact_set_of c.args.set.now) (effects_of c.args.reached.now) c.in-Some.state past)

pub returns : goal.returns
returns c =
    let found = c.in-Some-get.ensures.lookup in
    let at : slice_get c.args.states.now c.in-Some.state.0 ≡ Some c.in-Some-get.part.now =
    ap (λ n. slice_get c.args.states.now n) (sym c.from.ensures) ∙ slice_get-get_or c.args.states.now c.from.result c.in-Some-get.part.now found.3.0 ∙ ap (λ x. Some x) (sym found.1) in
    subst (λ o. IsInitReached c.args.states.now o (fact_set_of c.args.set.now) (effects_of c.args.reached.now) (effects_of c.reach.new.reached) c.in_ok-pending.pending) (sym c.in-Some.is)
    (some_part c.args.states.now (fact_set_of c.args.set.now) (effects_of c.args.reached.now) (effects_of c.reach.new.reached) c.in-Some.state c.in-Some-get.part.now c.in_ok-pending.pending at
    c.in_ok-pending.ensures)
