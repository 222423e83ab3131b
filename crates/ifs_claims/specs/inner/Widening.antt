-- Questions whose answer is that of one of several lists of constraints.
use Rattle.std.specs.Prelude.{◌||◌, Bool}
use Rattle.ifs_base.specs.Facts.{Facts}
use Rattle.ifs_solver.specs.declared.fact_sets.Scope.{Scope}
use Rattle.ifs_solver.specs.declared.searching.Extent.{Extent}
use Rattle.ifs_solver.specs.Asking.{IsExtentAmong, IsExtentOf}

-- An answer for any test becomes the answer for that test or another one.
abbrev pub Widens : Scope → (Facts → Bool) → Extent → Extent → Type 0
Widens scope other before after = (test : Facts → Bool) → IsExtentOf scope test before → IsExtentOf scope (λ facts. test facts || other facts) after

-- The same of facts of one kind.
abbrev pub WidensAmong : (Facts → Type 0) → (Facts → Bool) → Extent → Extent → Type 0
WidensAmong P other before after = (test : Facts → Bool) → IsExtentAmong P test before → IsExtentAmong P (λ facts. test facts || other facts) after
