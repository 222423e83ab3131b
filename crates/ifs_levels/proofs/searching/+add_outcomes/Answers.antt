-- What is added in a set, and in both parts of it.
use Rattle.std.proofs.Common.{◌-◌, subst, arith}
use Rattle.ifs_solver.specs.FactSets.{fact_set_of}
use Rattle.ifs_levels.specs.inner.Courses.{Adds, AddsPart, IsEvaluated}
use Rattle.ifs_levels.proofs.Covering.{pushed, empty_adds, part_adds, both_add}
use Rattle.ifs_levels.proofs.searching.+add_outcomes.Goals as goal

pub add_outcomes-returns-in_ok-push-in-Known : goal.add_outcomes-returns-in_ok-push-in-Known
add_outcomes-returns-in_ok-push-in-Known t c =
    let set = fact_set_of c.args.set.now in
    pushed c.args.course set c.args.budget (c.args.budget - 1) c.args.found.now.items c.push.new.self.items c.in-Known.outcome (omega (arith)) c.requires
    (subst (IsEvaluated c.args.course set) c.in-Known.is c.in_ok-outcome.ensures) c.in_ok-push-in-Known.ensures.items

pub add_part-returns-then-not-has_one : goal.add_part-returns-then-not-has_one
add_part-returns-then-not-has_one t c =
    empty_adds c.args.course c.args.branch c.args.domain c.args.part (fact_set_of c.args.set.now) c.args.budget c.args.found.now.items c.requires.domain (cc)

pub add_part-returns : goal.add_part-returns
add_part-returns t c =
    let mid = fact_set_of c.add_outcomes.new.set in
    part_adds c.args.course c.args.branch c.args.domain c.args.part (fact_set_of c.args.set.now) mid (fact_set_of c.put-2.new.self) c.args.budget c.args.found.now.items c.add_outcomes.new.found.items
    c.in_ok-left.left c.requires.domain c.put-2.ensures
    (subst (λ r. Adds c.args.course r mid c.args.budget c.args.found.now.items c.add_outcomes.new.found.items c.in_ok-left.left) c.put.ensures c.in_ok-left.ensures)

pub split-returns-in_ok-second-in-Some-first : goal.split-returns-in_ok-second-in-Some-first
split-returns-in_ok-second-in-Some-first t c =
    let before = fact_set_of c.args.set.now in
    let mid = fact_set_of c.add_part.new.set in
    both_add c.args.course c.args.branch c.in-Some.domain c.only-asked.result c.without-rest.result before mid (fact_set_of c.add_part-in-Some-first.new.set) c.args.budget c.in-Some-first.left
    c.args.found.now.items c.add_part.new.found.items c.add_part-in-Some-first.new.found.items c.in_ok-second-in-Some-first.second (cc) (cc) (cc)
    (subst (AddsPart c.args.course c.args.branch c.only-asked.result before mid c.args.budget c.args.found.now.items c.add_part.new.found.items) c.in-Some-first.is c.in_ok-first.ensures)
    c.in_ok-second-in-Some-first.ensures
