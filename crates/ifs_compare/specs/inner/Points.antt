-- Single facts of a range.
use Rattle.std.specs.Prelude.{map, if◌then◌else◌}
use Rattle.ifs_base.specs.declared.op.LinkState.{LinkState}
use Rattle.ifs_base.specs.declared.op.LinkState.TheVariants.{Unknown, Down, Up}
use Rattle.ifs_solver.specs.declared.domains.Domain.{Domain}
use Rattle.ifs_solver.specs.FactSets.{FactSet, allows, only, fact_set_with}

-- One value of a domain: this one if it is there, else down, up or unknown.
abbrev pub narrowed : LinkState → Domain → Domain
narrowed first domain = if allows first domain then only first domain else (if domain.down then only Down domain else (if domain.up then only Up domain else only Unknown domain))

-- The part of a set with one value of each domain.
abbrev pub point_in : LinkState → FactSet → FactSet
point_in first set = fact_set_with (map (narrowed first) set.links) (map (narrowed first) set.tests)
