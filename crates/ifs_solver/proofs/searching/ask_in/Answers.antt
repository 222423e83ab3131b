-- What was found is within the set.
use Rattle.std.proofs.Common.{sym, subst, arith}
use Rattle.ifs_solver.specs.FactSets.{fact_set_of, HasFacts}
use Rattle.ifs_solver.specs.Asking.{meets_all, IsSearched}
use Rattle.ifs_solver.proofs.Witnesses.{searched_in}
use Rattle.ifs_solver.proofs.searching.ask_in.Goals as goal

pub find-search-requires : goal.find-search-requires
find-search-requires c = subst HasFacts (sym c.in_ok-part.ensures) c.requires

pub returns-clause-extent : goal.returns-clause-extent
returns-clause-extent c =
    searched_in (meets_all c.args.constraints.now) (fact_set_of c.args.set.now) (fact_set_of c.find-search.new.set) c.find-search.result.extent
    (subst (λ r. IsSearched (meets_all c.args.constraints.now) r (fact_set_of c.find-search.new.set) c.find-search.result.extent) c.in_ok-part.ensures c.find-search.ensures.extent)

pub returns-clause-undecided : goal.returns-clause-undecided
returns-clause-undecided c = λ ran_out. let nothing_left = c.find-search.ensures.undecided ran_out in omega (arith, nothing_left, c.count.ensures.left, c.min-given.ensures)
