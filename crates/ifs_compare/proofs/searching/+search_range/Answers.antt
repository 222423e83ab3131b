-- What is found in both parts of a range is found in the range.
use Rattle.std.proofs.Common.{sym, subst}
use Rattle.ifs_solver.specs.FactSets.{fact_set_of}
use Rattle.ifs_solver.specs.Reaching.{yield_by}
use Rattle.ifs_compare.specs.inner.Comparing.{IsCompared}
use Rattle.ifs_compare.proofs.Searched.{empty_part, compared_back, first_compared, both_compared}
use Rattle.ifs_compare.proofs.searching.+search_range.Goals as goal

pub search_part-returns-then-not-has_one-clause-compared : goal.search_part-returns-then-not-has_one-clause-compared
search_part-returns-then-not-has_one-clause-compared t c =
    empty_part (yield_by c.args.pair.old) (yield_by c.args.pair.new) c.args.ask c.args.choice (fact_set_of c.args.range.now) c.requires.choice c.args.part (cc)

pub search_part-returns-then-not-is_somewhere-clause-compared : goal.search_part-returns-then-not-is_somewhere-clause-compared
search_part-returns-then-not-is_somewhere-clause-compared t c =
    let old = yield_by c.args.pair.old in
    let new = yield_by c.args.pair.new in
    let mid = fact_set_of c.search_range.new.range in
    compared_back old new c.args.ask c.args.choice (fact_set_of c.args.range.now) c.requires.choice c.args.part mid (fact_set_of c.put-then-not-is_somewhere.new.self) c.in_ok-found.found.finding (cc)
    (subst (λ r. IsCompared old new r mid c.in_ok-found.found.finding) c.put.ensures c.in_ok-found.ensures.compared) c.put-then-not-is_somewhere.ensures

pub split-returns-then-is_somewhere-clause-compared : goal.split-returns-then-is_somewhere-clause-compared
split-returns-then-is_somewhere-clause-compared t c =
    first_compared (yield_by c.args.pair.old) (yield_by c.args.pair.new) c.args.ask c.in-Some.choice (fact_set_of c.args.range.now) (cc) c.only-asked.result (fact_set_of c.search_part.new.range) c.in_ok-first.first.finding (cc) (cc)
    c.in_ok-first.ensures.compared

pub split-returns-clause-compared : goal.split-returns-clause-compared
split-returns-clause-compared t c =
    let old = yield_by c.args.pair.old in
    let new = yield_by c.args.pair.new in
    let before = fact_set_of c.args.range.now in
    let after = fact_set_of c.search_part-2.new.range in
    subst (IsCompared old new before after) (sym c.either.ensures)
    (both_compared old new c.args.ask c.in-Some.choice before (cc) c.only-asked.result c.other_values-others.result (fact_set_of c.search_part.new.range) after c.in_ok-first.first.finding c.in_ok-second.second.finding (cc) (cc) (cc)
    c.in_ok-first.ensures.compared c.in_ok-second.ensures.compared)
