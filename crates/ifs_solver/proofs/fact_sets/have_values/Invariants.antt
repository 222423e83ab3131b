-- Whether the rest of the domains have values says whether all do.
use Rattle.std.proofs.Common.{◌≡◌, drop}
use Rattle.std.specs.List.{list_all}
use Rattle.ifs_solver.specs.FactSets.{has_one}
use Rattle.ifs_solver.proofs.fact_sets.have_values.Given as goal

abbrev pub invariant-loop-domain : goal.invariant-loop-domain
invariant-loop-domain l = list_all has_one (drop l.domain-index l.domains) ≡ list_all has_one l.domains
