-- What is gone of a budget.
use Rattle.std.specs.Prelude.{◌≡◌, ◌≤◌, ◌-◌}
use Rattle.ifs_solver.specs.declared.searching.Budget.{Budget}

-- Of a budget, as much is gone as one question may look at, or all that was left.
abbrev pub IsUsedUp : Budget → Budget → Type 0
IsUsedUp before after = after.left ≤ before.left - before.each

-- Of a budget, no more is left than there was, and each question may look at as much.
pub record IsSpent (before after : Budget) : Type 0 where
  pub left : after.left ≤ before.left
  pub each : after.each ≡ before.each
