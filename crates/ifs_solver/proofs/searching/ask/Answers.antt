-- All facts are within the full set.
use Rattle.std.proofs.Common.{subst, arith}
use Rattle.ifs_solver.specs.FactSets.{fact_set_of}
use Rattle.ifs_solver.specs.Asking.{meets_all, IsSearched}
use Rattle.ifs_solver.proofs.Witnesses.{searched_all}
use Rattle.ifs_solver.proofs.searching.ask.Goals as goal

pub returns-clause-extent : goal.returns-clause-extent
returns-clause-extent c =
    searched_all (meets_all c.args.constraints.now) c.args.scope (fact_set_of c.find-search.new.set) c.find-search.result.extent
    (subst (λ r. IsSearched (meets_all c.args.constraints.now) r (fact_set_of c.find-search.new.set) c.find-search.result.extent) c.in_ok-set.ensures c.find-search.ensures.extent)

pub returns-clause-undecided : goal.returns-clause-undecided
returns-clause-undecided c = λ ran_out. let nothing_left = c.find-search.ensures.undecided ran_out in omega (arith, nothing_left, c.count.ensures.left, c.min-given.ensures)
