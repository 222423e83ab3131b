-- All are found if the budget did not run out.
use Rattle.std.proofs.Common.{sym, subst}
use Rattle.std.proofs.lemmas.Option.{IfSome_then}
use Rattle.ifs_solver.specs.FactSets.{fact_set_of}
use Rattle.ifs_levels.specs.inner.Courses.{AreAllOfCourse}
use Rattle.ifs_levels.proofs.Covering.{all_added}
use Rattle.ifs_levels.proofs.searching.outcomes_of.Goals as goal

pub returns-clause-all : goal.returns-clause-all
returns-clause-all c =
    let found = c.add_outcomes.new.found.items in
    IfSome_then c.completed.result c.completed.ensures.all
    (λ outcomes h. subst (AreAllOfCourse c.args.scope c.args.course) (sym h.same)
    (all_added c.args.course c.args.scope (fact_set_of c.in_ok-set.set) (fact_set_of c.add_outcomes.new.set) c.min-given.result c.new-found.result.items found c.in_ok-left.left h.there c.in_ok-set.ensures
    c.in_ok-left.ensures c.new-found.ensures.items))
