-- Searches in parts of a set.
use Rattle.std.specs.Prelude.{◌≡◌, Bool, true, false}
use Rattle.ifs_base.specs.Facts.{Facts}
use Rattle.ifs_solver.specs.declared.domains.Branch.{Branch}
use Rattle.ifs_solver.specs.declared.domains.Domain.{Domain}
use Rattle.ifs_solver.specs.declared.searching.Extent.{Extent}
use Rattle.ifs_solver.specs.declared.searching.Extent.TheVariants.{Somewhere, Nowhere, Undecided}
use Rattle.ifs_solver.specs.FactSets.{FactSet, HasFacts, with_domain}
use Rattle.ifs_solver.specs.Asking.{IsPart, IsThroughout}

-- A search in the part of a set with another domain at a place: what is found stays, and otherwise the set is what it was.
abbrev pub IsPartSearched : (Facts → Bool) → Branch → Domain → FactSet → FactSet → Extent → Type 0
IsPartSearched test branch part before after Somewhere = IsPart after (with_domain branch part before) × HasFacts after × IsThroughout after test true
IsPartSearched test branch part before after Nowhere = (after ≡ before) × IsThroughout (with_domain branch part before) test false
IsPartSearched test branch part before after Undecided = after ≡ before
