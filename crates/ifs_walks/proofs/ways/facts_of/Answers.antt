-- The range of all facts.
use Rattle.ifs_solver.specs.FactSets.{fact_set_of}
use Rattle.ifs_walks.proofs.Ranges.{full_has_facts}
use Rattle.ifs_walks.proofs.ways.facts_of.Goals as goal

pub find-search-requires : goal.find-search-requires
find-search-requires c = full_has_facts c.args.scope (fact_set_of c.in_ok-range.range) c.in_ok-range.ensures
