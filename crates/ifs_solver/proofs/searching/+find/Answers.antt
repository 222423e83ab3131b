-- What is known of a set, and what the searches in its parts find.
use Rattle.std.proofs.Common.{true, false, sym, refl, subst, ◌∙◌, arith}
use Rattle.ifs_solver.specs.FactSets.{fact_set_of}
use Rattle.ifs_solver.specs.Asking.{meets_all, IsSearched}
use Rattle.ifs_solver.proofs.Splitting.{known_throughout, first_found, second_found, empty_part, searched_back}
use Rattle.ifs_solver.proofs.Theres.{IsThere, all_there}
use Rattle.ifs_solver.proofs.searching.+find.Goals as goal

pub find-split-requires : goal.find-split-requires
find-split-requires t c =
    let set = fact_set_of c.args.set.now in
    (omega (arith, c.if-budget-eq0.false), (c.requires, subst (IsThere set) (sym c.judge_all.ensures ∙ c.in-Open.is) (all_there set c.args.constraints.now)))

pub find-returns-in-Known-true-clause-extent : goal.find-returns-in-Known-true-clause-extent
find-returns-in-Known-true-clause-extent t c =
    (λ facts within. within, c.requires, known_throughout (fact_set_of c.args.set.now) c.args.constraints.now true cc)

pub find-returns-in-Known-false-clause-extent : goal.find-returns-in-Known-false-clause-extent
find-returns-in-Known-false-clause-extent t c =
    (refl, known_throughout (fact_set_of c.args.set.now) c.args.constraints.now false cc)

pub find_part-returns-then-not-has_one-clause-extent : goal.find_part-returns-then-not-has_one-clause-extent
find_part-returns-then-not-has_one-clause-extent t c =
    empty_part (meets_all c.args.constraints.now) c.args.branch c.args.domain (fact_set_of c.args.set.now) c.requires.domain c.args.part cc

pub find_part-returns-then-not-is_somewhere-clause-extent : goal.find_part-returns-then-not-is_somewhere-clause-extent
find_part-returns-then-not-is_somewhere-clause-extent t c =
    searched_back (meets_all c.args.constraints.now) c.args.branch c.args.domain (fact_set_of c.args.set.now) c.requires.domain c.args.part (fact_set_of c.find-search.new.set)
    (fact_set_of c.put-then-not-is_somewhere.new.self) c.find-search.result.extent (cc)
    (subst (λ r. IsSearched (meets_all c.args.constraints.now) r (fact_set_of c.find-search.new.set) c.find-search.result.extent) c.put.ensures c.find-search.ensures.extent) c.put-then-not-is_somewhere.ensures

pub split-returns-then-is_somewhere-clause-extent : goal.split-returns-then-is_somewhere-clause-extent
split-returns-then-is_somewhere-clause-extent t c =
    first_found (meets_all c.args.constraints.now) c.args.branch c.in-Some.domain (fact_set_of c.args.set.now) (cc) c.only-part.result (fact_set_of c.find_part-first.new.set) c.find_part-first.result.extent (cc) (cc)
    c.find_part-first.ensures.extent

pub split-returns-clause-extent : goal.split-returns-clause-extent
split-returns-clause-extent t c =
    subst (IsSearched (meets_all c.args.constraints.now) (fact_set_of c.args.set.now) (fact_set_of c.find_part-second.new.set)) (sym c.either.ensures)
    (second_found (meets_all c.args.constraints.now) c.args.branch c.in-Some.domain (fact_set_of c.args.set.now) (cc) c.only-part.result c.without-rest.result (fact_set_of c.find_part-first.new.set) (fact_set_of c.find_part-second.new.set)
    c.find_part-first.result.extent c.find_part-second.result.extent (cc) (cc) (cc) c.find_part-first.ensures.extent c.find_part-second.ensures.extent)
