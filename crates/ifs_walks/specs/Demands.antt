-- Facts that meet demands.
use Rattle.std.specs.Prelude.{true, List}
use Rattle.ifs_solver.specs.declared.constraints.Constraint.{Constraint}
use Rattle.ifs_solver.specs.Asking.{IsThroughout, meets_all}
use Rattle.ifs_solver.specs.FactSets.{FactSet, HasFacts}

-- A set has facts, and all of these meet some demands.
pub record AllMeet (demands : List Constraint) (set : FactSet) : Type 0 where
  pub some : HasFacts set
  pub meet : IsThroughout set (meets_all demands) true
