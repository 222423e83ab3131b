-- What questions cost of a budget.
use Rattle.std.specs.Prelude.{◌≡◌}
use Rattle.ifs_solver.specs.declared.searching.Budget.{Budget}
use Rattle.ifs_solver.specs.declared.searching.Extent.{Extent}
use Rattle.ifs_solver.specs.declared.searching.Extent.TheVariants.{Undecided}
use Rattle.ifs_solver.specs.Budgets.{IsSpent, IsUsedUp}

-- A question is paid from a budget: this is used up if the question is undecided.
pub record IsPaid (before after : Budget) (extent : Extent) : Type 0 where
  pub spent : IsSpent before after
  pub undecided : extent ≡ Undecided → IsUsedUp before after

-- If a first question is paid from whatever budget, both are.
abbrev pub IsPaidToo : Budget → Budget → Extent → Extent → Type 0
IsPaidToo before after extent both = (given : Budget) → IsPaid given before extent → IsPaid given after both
